-- Filling the two lists from the values of their lines.
--   halves, pairs_more                      the values of either list, of pairs
--   put-more                                one entry more in a list
--   Filled, filled_start .. filled-parity   the state of the filling after p lines
-- Assumes nothing.
use Prim.Native.Nat.{ℕ, zero, suc, ◌+◌, ◌-◌, ◌*◌, ◌/◌, ◌%◌, ◌≤◌, ◌<◌}
use mathlib.Core.Path.{◌≡◌, refl, sym, ap, ap₂, ◌∙◌}
use mathlib.Core.List.{List, [], ◌∷◌, ◌++◌, append-nil}
use native.Mathlib.Omega.{arith}
use lib.ListN.{length, drop, length-append}
use lib.Seq.{sets}
use Rattle.staircase.proofs.Fill.{front-all, front-sets}
use Rattle.text_items.specs.Answers.{step_of}
use Rattle.text_items.proofs.Lines.{step-prep, answer_stuck}
use Rattle.text_formats.specs.Items.{stuck, past, prep, walk, values, Passes}
use Rattle.text_formats.proofs.Walking.{prep_nil, prep-prep}
use Rattle.text_formats.proofs.Lines.{lines-whole, lines_end}
use Rattle.text.specs.KitText.{pair_line, pair_lines}
use Rattle.text.proofs.Bytes.{halves, packs-length}
use Rattle.text.specs.KitReader.{firsts, seconds, packs}
use Rattle.text_kit_scan.specs.Answers.{line_walk}
use Rattle.text_items.specs.declared.Broken.{Broken}
use Rattle.std.specs.Prelude.{Result, Ok, Err, IsOk}
use Rattle.text_kit_scan.proofs.ListLines.{pairs_wrong, pairs_next}

pairs_more : (k : ℕ) (l : List ℕ) (a b : ℕ) → length l ≡ 2 * k
    → (firsts (l ++ (a ∷ b ∷ [])) ≡ firsts l ++ (a ∷ [])) × (seconds (l ++ (a ∷ b ∷ [])) ≡ seconds l ++ (b ∷ []))
unfolding firsts seconds
pairs_more k [] a b e = (refl, refl)
pairs_more k (x ∷ []) a b e = absurd (omega arith)
pairs_more zero (x ∷ y ∷ l) a b e = absurd (omega arith)
pairs_more (suc k) (x ∷ y ∷ l) a b e = let i = pairs_more k l a b (omega arith) in (ap (λ (z : List ℕ). x ∷ z) i.0, ap (λ (z : List ℕ). y ∷ z) i.1)

packs-more : (ds : List ℕ) (a : ℕ) → packs (ds ++ (a ∷ [])) ≡ packs ds ++ ((a % 256) ∷ (a / 256 % 256) ∷ [])
unfolding packs
packs-more [] a = refl
packs-more (d ∷ ds) a = ap (λ (l : List ℕ). (d % 256) ∷ (d / 256 % 256) ∷ l) (packs-more ds a)

-- one entry more
put-more : (l₀ ds : List ℕ) (p a : ℕ) → length (packs ds) ≡ 2 * p → 2 * p + 2 ≤ length l₀
    → sets (packs ds ++ drop (2 * p) l₀) (2 * p) ((a % 256) ∷ (a / 256 % 256) ∷ []) ≡ packs (ds ++ (a ∷ [])) ++ drop (2 * (p + 1)) l₀
put-more l₀ ds p a e h =
    let z : 2 * p + 2 ≡ 2 * (p + 1) = omega arith in
    front-sets (packs ds) l₀ (2 * p) ((a % 256) ∷ (a / 256 % 256) ∷ []) e h
    ∙ ap₂ (λ (x : List ℕ) (n : ℕ). x ++ drop n l₀) (sym (packs-more ds a)) z

-- After p lines: ws are the values read, and start the two lists; what is left at q is the lines from p on.
pub record Filled (s : List ℕ) (at n : ℕ) (l₀ m₀ l m : List ℕ) (q p : ℕ) : Type 0 where
  pub ws : List ℕ
  pub count : length ws ≡ 2 * p
  pub left : l ≡ packs (firsts ws) ++ drop (2 * p) l₀
  pub right : m ≡ packs (seconds ws) ++ drop (2 * p) m₀
  pub rest : walk (pair_lines 0 n) s at ≡ prep ws (walk (pair_lines p (n - p)) s q)

module _ (s : List ℕ) (at n : ℕ) (l₀ m₀ : List ℕ) where
  pub filled_start : Filled s at n l₀ m₀ l₀ m₀ at 0
  unfolding packs firsts seconds
  filled_start =
      record {
        ws = [];
        count = refl;
        left = refl;
        right = refl;
        rest = lines-whole pair_line 0 n s at ∙ sym (prep_nil (walk (pair_lines 0 (n - 0)) s at));
      }

  module _ (hl : length l₀ ≡ 2 * n) (hm : length m₀ ≡ 2 * n) (l m : List ℕ) (q p : ℕ) (F : Filled s at n l₀ m₀ l m q p) where
    sizes : (length (packs (firsts F.ws)) ≡ 2 * p) × (length (packs (seconds F.ws)) ≡ 2 * p)
    sizes =
        let h = halves p F.ws F.count in
        (omega (arith, packs-length (firsts F.ws), h.0), omega (arith, packs-length (seconds F.ws), h.1))

    module _ (lt : p < n) (x : Result (ℕ × ℕ × ℕ) Broken) (e : line_walk x ≡ walk (pair_line p) s q) where
      pub filled_there : Passes (walk (pair_lines 0 n) s at) → IsOk x
      filled_there h = go x refl
        where
          wrong : (k : Broken) → x ≡ Err k → ⊥
          wrong k f =
              let w : step_of (walk (pair_lines 0 n) s at) ≡ Err k = ap step_of F.rest ∙ step-prep F.ws _ ∙ sym (pairs_wrong p n s q lt x e k f) in
              let stuck-at : walk (pair_lines 0 n) s at ≡ stuck k.place = answer_stuck (walk (pair_lines 0 n) s at) (Err k) k (sym w) refl in
              rw stuck-at at h

          go : (y : Result (ℕ × ℕ × ℕ) Broken) → x ≡ y → IsOk y
          go (Ok t) f = refl
          go (Err k) f = absurd (wrong k f)

      pub filled_next : (a b r : ℕ) → x ≡ Ok (a, b, r) → (l' m' : List ℕ)
          → l' ≡ sets l (2 * p) ((a % 256) ∷ (a / 256 % 256) ∷ []) → m' ≡ sets m (2 * p) ((b % 256) ∷ (b / 256 % 256) ∷ [])
          → Filled s at n l₀ m₀ l' m' r (p + 1)
      filled_next a b r f l' m' g h =
          let more = pairs_more p F.ws a b F.count in
          record {
            ws = F.ws ++ (a ∷ b ∷ []);
            count = omega (arith, length-append F.ws (a ∷ b ∷ []), F.count);
            left = rw (g, F.left, more.0) (put-more l₀ (firsts F.ws) p a sizes.0 (omega arith));
            right = rw (h, F.right, more.1) (put-more m₀ (seconds F.ws) p b sizes.1 (omega arith));
            rest = rw (F.rest, pairs_next p n s q lt x e a b r f, prep-prep);
          }

    module _ (done : n ≤ p) where
      all_read : walk (pair_lines 0 n) s at ≡ past F.ws q
      all_read = rw (F.rest, lines_end pair_line p n p s q done) (ap (λ (z : List ℕ). past z q) (append-nil F.ws))

      pub filled-own : l ≡ packs (firsts (values (walk (pair_lines 0 n) s at)))
      filled-own = rw (all_read, F.left) (front-all (packs (firsts F.ws)) l₀ (2 * p) (omega arith))

      pub filled-parity : m ≡ packs (seconds (values (walk (pair_lines 0 n) s at)))
      filled-parity = rw (all_read, F.right) (front-all (packs (seconds F.ws)) m₀ (2 * p) (omega arith))
