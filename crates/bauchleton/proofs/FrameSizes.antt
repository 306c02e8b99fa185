-- Laws of the sizes that a host in C is told.
--   sizes-made                  the sizes of an allowed design, from the lengths that are due
--   kit-work-few                the working bytes of the kit checker are few
--   sizes-none, sizes-some      what is told where rules 1 to 4 refuse, and where they accept
--   bauchleton_sizes_demand1    demand 1 of the call
-- Assumes nothing.
use Rattle.answers.specs.Answers.{verdict_of}
use Rattle.answers.specs.declared.Refusal.{Refusal}
use Rattle.std.specs.Prelude.{Ok, Result}
use mathlib.Core.Path.{◌≡◌, refl, sym, ap, ◌∙◌}
use mathlib.Core.Logic.{◌≢◌}
use mathlib.Core.List.{List, [], ◌∷◌}
use Prim.Native.Nat.{ℕ, ◌+◌, ◌*◌, ◌/◌, ◌≤◌}
use native.Mathlib.Nat.{mul-le-mul}
use native.Mathlib.Omega.{arith}
use Rattle.staircase.specs.Design.{Params, params, order}
use Rattle.staircase.specs.Frame.{groups}
use Rattle.staircase.specs.System.{row_bytes}
use Rattle.staircase.specs.Rules.{Verdict, design_rules, count_rule, kit_work, kept_work}
use Rattle.staircase.specs.Rules.Verdict.{accepted, refused}
use Rattle.staircase.proofs.Demand1.{by_table_then, design-by_table, count-by_table}
use Rattle.design.specs.declared.Design.{Design}
use Rattle.design.specs.Answers.{DesignIs, Allowed}
use Rattle.design.specs.Sizes.{params_of}
use Rattle.answers.proofs.Checks.{check_passed}
use Rattle.design.proofs.Answers.{made-params}
use Rattle.rules.specs.declared.lengths.Lengths.{Lengths}
use Rattle.rules.specs.Lengths.{kit_due, make_due, lists_due, decoder_due, frame_due}
use Rattle.loopback.specs.Link.{loopback_work}
use Rattle.rules_verdict.specs.Number.{number, place_of, told}
use Rattle.rules_verdict.specs.Demand1.{Demand1C}
use Rattle.rules_verdict.proofs.Demand1.{demand1_number}
use Rattle.rules_verdict.proofs.Stores.{told_alike}
use Rattle.bauchleton.specs.declared.sizes.Sizes.{Sizes}
use Rattle.bauchleton.specs.FrameSizes.{no_sizes, sizes_verdict, sizes_answer, sizes_told}

pub sizes-made : (d : Design) (L : ℕ) {r n k g kept row : ℕ} {kit make lists frame decoder : Lengths}
    → r ≡ d.m * d.t → n ≡ 2 * d.size + 2 * (d.m * d.t) → k ≡ 2 * d.size + d.m * d.t → g ≡ groups L
    → kit ≡ kit_due (params_of d) → make ≡ make_due (params_of d) → lists ≡ lists_due (params_of d) → frame ≡ frame_due (params_of d) L lists
    → decoder ≡ decoder_due (params_of d) L → kept ≡ kept_work (params_of d) L → row ≡ (d.size * (d.m * d.t) + 7) / 8
    → ◌≡◌ {A = List ℕ} (0 ∷ r ∷ n ∷ k ∷ g ∷ kit.own ∷ kit.inverse ∷ frame.info ∷ frame.red
    ∷ kit.work ∷ make.work ∷ kit.work ∷ lists.work ∷ decoder.work ∷ (kit.work + kept) ∷ row ∷ []) (sizes_answer accepted (params_of d) L)
unfolding sizes_answer kit_due make_due lists_due frame_due decoder_due loopback_work
sizes-made d L hr hn hk hg ek em el ef ed ep ew =
    λ i. 0 ∷ hr i ∷ hn i ∷ hk i ∷ hg i ∷ (ek i).own ∷ (ek i).inverse ∷ (ef i).info ∷ (ef i).red
    ∷ (ek i).work ∷ (em i).work ∷ (ek i).work ∷ (el i).work ∷ (ed i).work ∷ ((ek i).work + ep i) ∷ ew i ∷ []

pub kit-work-few : (d : Design) (kit : Lengths) → Allowed d → kit ≡ kit_due (params_of d) → kit.work ≤ 4096 * 512
unfolding kit_due kit_work
kit-work-few d kit allowed e =
    let n : order (params_of d) ≤ 4096 = allowed.order-high in
    let w : row_bytes (order (params_of d)) ≤ 512 = omega (arith, n) in
    let work : kit.work ≡ order (params_of d) * row_bytes (order (params_of d)) = ap (λ (z : Lengths). z.work) e in
    let few : order (params_of d) * row_bytes (order (params_of d)) ≤ 4096 * 512 = mul-le-mul n w in
    omega (arith, work, few)

-- ---- what is told

none_told : (w : Verdict) (s : Params) (L : ℕ) → w ≢ accepted → place_of w ∷ no_sizes ≡ sizes_answer w s L
unfolding place_of sizes_answer
none_told accepted s L h = absurd (h refl)
none_told (refused n p) s L h = refl

module _ (m t M L : ℕ) (l : List ℕ) {a : ℕ} {k : List ℕ} where
  pub sizes-none : (v : Verdict) → v ≢ accepted → v ≡ sizes_verdict m t M L → (a ≡ number v) × (k ≡ told (place_of v ∷ no_sizes) l)
      → (a ≡ number (sizes_verdict m t M L)) × (k ≡ told (sizes_answer (sizes_verdict m t M L) (params m t M 0) L) l)
  sizes-none v h e told_is =
      told_alike number (λ (w : Verdict). sizes_answer w (params m t M 0) L) l e
      (told_is.0, told_is.1 ∙ ap (λ (z : List ℕ). told z l) (none_told v (params m t M 0) L h))

  pub sizes-some : (x : Result Design Refusal) (d : Design) (z : Sizes) → x ≡ Ok d → verdict_of x ≡ sizes_verdict m t M L → DesignIs x m t M 0
      → sizes_told 0 z ≡ sizes_answer accepted (params_of d) L → (a ≡ 0) × (k ≡ told (sizes_told 0 z) l)
      → (a ≡ number (sizes_verdict m t M L)) × (k ≡ told (sizes_answer (sizes_verdict m t M L) (params m t M 0) L) l)
  unfolding number
  sizes-some x d z g v is e told_is =
      told_alike number (λ (w : Verdict). sizes_answer w (params m t M 0) L) l (sym (check_passed g) ∙ v)
      (told_is.0, told_is.1 ∙ ap (λ (y : List ℕ). told y l) (e ∙ ap (λ (s : Params). sizes_answer accepted s L) (made-params g m t M 0 is)))

-- ---- demand 1

pub bauchleton_sizes_demand1 : (m t M L : ℕ)
    → Demand1C (1 ∷ 2 ∷ 3 ∷ 4 ∷ []) (number (sizes_verdict m t M L)) (place_of (sizes_verdict m t M L)) [] []
bauchleton_sizes_demand1 m t M L =
    demand1_number _ _ _ _
    (record {
      by_table =
          by_table_then (1 ∷ 2 ∷ 3 ∷ 4 ∷ []) (design_rules m t M 0) (count_rule L) (design-by_table (1 ∷ 2 ∷ 3 ∷ 4 ∷ []) refl refl refl m t M 0)
          (λ e. count-by_table (1 ∷ 2 ∷ 3 ∷ 4 ∷ []) refl L);
      untouched = λ h. refl;
    })
