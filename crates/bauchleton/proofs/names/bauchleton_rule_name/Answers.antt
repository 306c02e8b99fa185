-- Each number has its name.
use mathlib.Core.Path.{◌≡◌, refl}
use Prim.Native.Nat.{◌≤◌}
use native.Mathlib.Omega.{arith}
use Rattle.bauchleton.specs.RuleNames.{rule_name}
use Rattle.bauchleton.proofs.RuleNames.{name_told, name_none}
use Rattle.bauchleton.proofs.names.bauchleton_rule_name.Goals as goal

pub returns-in-0 : goal.returns-in-0
unfolding rule_name
returns-in-0 c =
    let e : c.args.rule ≡ 0 = omega arith in
    name_told _ c.args.out.now e refl c.put_name.ensures

pub returns-in-1 : goal.returns-in-1
unfolding rule_name
returns-in-1 c =
    let e : c.args.rule ≡ 1 = omega arith in
    name_told _ c.args.out.now e refl c.put_name-in-1.ensures

pub returns-in-2 : goal.returns-in-2
unfolding rule_name
returns-in-2 c =
    let e : c.args.rule ≡ 2 = omega arith in
    name_told _ c.args.out.now e refl c.put_name-in-2.ensures

pub returns-in-3 : goal.returns-in-3
unfolding rule_name
returns-in-3 c =
    let e : c.args.rule ≡ 3 = omega arith in
    name_told _ c.args.out.now e refl c.put_name-in-3.ensures

pub returns-in-4 : goal.returns-in-4
unfolding rule_name
returns-in-4 c =
    let e : c.args.rule ≡ 4 = omega arith in
    name_told _ c.args.out.now e refl c.put_name-in-4.ensures

pub returns-in-5 : goal.returns-in-5
unfolding rule_name
returns-in-5 c =
    let e : c.args.rule ≡ 5 = omega arith in
    name_told _ c.args.out.now e refl c.put_name-in-5.ensures

pub returns-in-6 : goal.returns-in-6
unfolding rule_name
returns-in-6 c =
    let e : c.args.rule ≡ 6 = omega arith in
    name_told _ c.args.out.now e refl c.put_name-in-6.ensures

pub returns-in-7 : goal.returns-in-7
unfolding rule_name
returns-in-7 c =
    let e : c.args.rule ≡ 7 = omega arith in
    name_told _ c.args.out.now e refl c.put_name-in-7.ensures

pub returns-in-8 : goal.returns-in-8
unfolding rule_name
returns-in-8 c =
    let e : c.args.rule ≡ 8 = omega arith in
    name_told _ c.args.out.now e refl c.put_name-in-8.ensures

pub returns-in-9 : goal.returns-in-9
unfolding rule_name
returns-in-9 c =
    let e : c.args.rule ≡ 9 = omega arith in
    name_told _ c.args.out.now e refl c.put_name-in-9.ensures

pub returns-in-10 : goal.returns-in-10
unfolding rule_name
returns-in-10 c =
    let e : c.args.rule ≡ 10 = omega arith in
    name_told _ c.args.out.now e refl c.put_name-in-10.ensures

pub returns-in-11 : goal.returns-in-11
unfolding rule_name
returns-in-11 c =
    let e : c.args.rule ≡ 11 = omega arith in
    name_told _ c.args.out.now e refl c.put_name-in-11.ensures

pub returns-in-12 : goal.returns-in-12
unfolding rule_name
returns-in-12 c =
    let e : c.args.rule ≡ 12 = omega arith in
    name_told _ c.args.out.now e refl c.put_name-in-12.ensures

pub returns-in-13 : goal.returns-in-13
unfolding rule_name
returns-in-13 c =
    let e : c.args.rule ≡ 13 = omega arith in
    name_told _ c.args.out.now e refl c.put_name-in-13.ensures

pub returns-in-14 : goal.returns-in-14
unfolding rule_name
returns-in-14 c =
    let e : c.args.rule ≡ 14 = omega arith in
    name_told _ c.args.out.now e refl c.put_name-in-14.ensures

pub returns-in-15 : goal.returns-in-15
unfolding rule_name
returns-in-15 c =
    let e : c.args.rule ≡ 15 = omega arith in
    name_told _ c.args.out.now e refl c.put_name-in-15.ensures

pub returns-in-16 : goal.returns-in-16
unfolding rule_name
returns-in-16 c =
    let e : c.args.rule ≡ 16 = omega arith in
    name_told _ c.args.out.now e refl c.put_name-in-16.ensures

pub returns-in-17 : goal.returns-in-17
unfolding rule_name
returns-in-17 c =
    let e : c.args.rule ≡ 17 = omega arith in
    name_told _ c.args.out.now e refl c.put_name-in-17.ensures

pub returns-in-18 : goal.returns-in-18
unfolding rule_name
returns-in-18 c =
    let e : c.args.rule ≡ 18 = omega arith in
    name_told _ c.args.out.now e refl c.put_name-in-18.ensures

pub returns-in-19 : goal.returns-in-19
unfolding rule_name
returns-in-19 c =
    let e : c.args.rule ≡ 19 = omega arith in
    name_told _ c.args.out.now e refl c.put_name-in-19.ensures

pub returns-in_default : goal.returns-in_default
returns-in_default c =
    let h : 20 ≤ c.args.rule = omega arith in
    name_none _ _ h
