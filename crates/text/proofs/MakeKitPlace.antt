-- Rule 11's place of `makekit`: no rule behind those on the list text refuses by 11.
--   verdict_parts    the rules of `makekit`, as those on a list text and those behind them
--   makekit_eleven   its refusals by 11 are those of the list text
--   makekit_place    the claim
-- Assumes nothing.
use mathlib.Core.Path.{◌≡◌, refl, sym, ap, ◌∙◌, subst, subst⁻¹}
use mathlib.Core.Bool.{true, true≢false}
use mathlib.Core.Logic.{◌↔◌}
use mathlib.Core.List.{List, [], ◌∷◌}
use Prim.Native.Nat.{ℕ, ◌≤◌}
use native.Mathlib.Omega.{arith}
use borrow.Author.Tests.{le-ltb}
use lib.Dec.{ltb}
use lib.ListN.{length}
use Rattle.staircase.specs.Design.{Params, Interleavers, order}
use Rattle.staircase.specs.System.{system_entry}
use Rattle.staircase.specs.Square.{dependent}
use Rattle.staircase.specs.Rules.{Verdict, ◌then◌, refuse_first, design_rules, interleavers, list_rule}
use Rattle.staircase.specs.Rules.Verdict.{accepted, refused}
use Rattle.staircase.specs.Maker.{singular_rule}
use Rattle.staircase.specs.Demand1 as table
use Rattle.staircase.specs.Demand1.{ByTable, worked, refused_by, among}
use Rattle.staircase.proofs.Rules.{then_first, then_rest, refuse-accepted, design_limits}
use Rattle.staircase.proofs.OrderMoved.{chain_then}
use Rattle.staircase.proofs.Demand1.{by_table_then, by_table-refuse, by_table-first, lists-by_table}
use Rattle.text.specs.KitText.{kit_bytes}
use Rattle.text.specs.KitReader.{head_number, head_rule, kit_params}
use Rattle.text.specs.KitWriter.{text_length}
use Rattle.text.specs.Programs.{most-input, printed}
use Rattle.text.specs.MakeKit.{lists_rule, scan_lists, self_shown, parity_shown, text_rule, make_kit_call, make_kit_verdict, make_kit_output, MakeKitPlace}
use Rattle.text.proofs.Programs.{then_on, then_refused}
use Rattle.text.proofs.ProgramRules.{make_call_rules}
use Rattle.text.proofs.ListPromises.{list_place_lines, list_place_rest, list_rules}

abbrev behind : List ℕ → Verdict
behind s = text_rule s then (make_kit_call s).verdict

verdict_parts : (s : List ℕ) → length s ≤ most-input → make_kit_verdict s ≡ (scan_lists s then behind s)
unfolding make_kit_verdict scan_lists
verdict_parts s short =
    then_on _ _ _ (refuse-accepted 13 2 (le-ltb most-input (length s) short))
    (chain_then (head_rule s ∷ design_rules (head_number s 0) (head_number s 1) (head_number s 2) 0 ∷ []) (lists_rule s) (behind s))

-- the rules behind those on a list text
abbrev others : List ℕ
others = 7 ∷ 13 ∷ 14 ∷ []

behind-by_table : (s : List ℕ) → scan_lists s ≡ accepted → ByTable others (behind s)
unfolding scan_lists text_rule singular_rule
behind-by_table s e =
    let p : Params = kit_params s in
    let l : Interleavers = interleavers p (self_shown s) (parity_shown s) in
    let n : ℕ = order p in
    let long : ℕ = text_length (head_number s 0) (head_number s 1) (head_number s 2) (self_shown s) (parity_shown s) in
    let d : Verdict = design_rules (head_number s 0) (head_number s 1) (head_number s 2) 0 in
    let f : (d then lists_rule s) ≡ accepted = then_rest (head_rule s) (d then lists_rule s) e in
    let small = (design_limits (head_number s 0) (head_number s 1) (head_number s 2) 0 (then_first d (lists_rule s) f)).order-high in
    by_table_then others (text_rule s) (make_kit_call s).verdict
    (by_table-refuse others (ltb most-input long) 13 1 refl (λ g. table.input refl (omega arith) (omega arith)))
    (λ g. subst⁻¹ (ByTable others) (make_call_rules s (then_first d (lists_rule s) f) (then_rest d (lists_rule s) f))
    (by_table_then others (list_rule p l) (refuse_first 14 0 n (dependent n (system_entry p l))) (lists-by_table others p small refl l)
    (λ h. by_table-first others 14 0 n (dependent n (system_entry p l)) refl (λ i k. table.singular refl (omega (arith, k, small))))))

not_eleven : (v : Verdict) (k : ℕ) → ByTable others v → v ≡ refused 11 k → ⊥
not_eleven v k (worked e) f = let z : ◌≡◌ {A = ℕ} 0 1 = cc in omega arith
not_eleven v k (refused_by n p e a t) f = let g : n ≡ 11 = cc in true≢false (sym (subst (λ (z : ℕ). among z others ≡ true) g a))

pub makekit_eleven : (s : List ℕ) → length s ≤ most-input → (k : ℕ) → (make_kit_verdict s ≡ refused 11 k) ↔ (scan_lists s ≡ refused 11 k)
makekit_eleven s short k = (
  λ e. go (scan_lists s) refl (sym (verdict_parts s short) ∙ e),
  λ e. verdict_parts s short ∙ then_refused (scan_lists s) (behind s) 11 k e,
)
  where
    go : (u : Verdict) → scan_lists s ≡ u → (u then behind s) ≡ refused 11 k → u ≡ refused 11 k
    go accepted d f = absurd (not_eleven (behind s) k (behind-by_table s d) f)
    go (refused n p) d f = f

pub makekit_place : (s : List ℕ) → MakeKitPlace s
unfolding make_kit_output printed
makekit_place s =
    record {
      lines = λ short none k.
          let a = makekit_eleven s short k in
          let b = list_place_lines s none k in
          (λ e. b.0 (a.0 e), λ x. a.1 (b.1 x));
      rest = λ short m t M starts passing k.
          let a = makekit_eleven s short k in
          let b = list_place_rest s m t M starts passing k in
          (λ e. b.0 (a.0 e), λ x. a.1 (b.1 x));
      rules = λ short m t M starts n k e.
          verdict_parts s short ∙ then_refused (scan_lists s) (behind s) n k (list_rules s m t M n k starts e);
      prints = λ n k e.
          ap (λ (v : Verdict). printed v (kit_bytes (head_number s 0) (head_number s 1) (head_number s 2) (self_shown s) (parity_shown s) (make_kit_call s).inverse)) e;
    }
