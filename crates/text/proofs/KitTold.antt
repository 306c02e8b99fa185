-- What an accepted text shows: the values of its lines, its bytes, and the lists and the inverse that the reader leaves.
--   Told, kit-told                  the values of the lists' lines and of the rows' lines, and the text of them
--   rendered                        the text of the lists and the inverse
-- Assumes nothing.
use Prim.Native.Nat.{ℕ, ◌+◌, ◌*◌, ◌≤◌}
use mathlib.Core.Path.{◌≡◌, refl, sym, ap, ap₂, ◌∙◌}
use mathlib.Core.List.{List, [], ◌∷◌, ◌++◌, append-nil}
use native.Mathlib.Omega.{arith}
use lib.ListN.{length, get_or, drop}
use Rattle.text_formats.specs.Format as format
use Rattle.text_formats.specs.Format.{Item, Scan, scan, end}
use Rattle.text_formats.specs.Items.{Walk, stuck, past, walk, spell, Fit, bits_lines, seq, moved, scan_at}
use Rattle.text_formats.proofs.Parts.{fit-split, lits-first}
use Rattle.text_formats.proofs.Spelling.{continue, prefix, scan-seq, tidy_oks, walk-sound}
use Rattle.text.specs.Rules.{values_of}
use Rattle.staircase.specs.Design.{order}
use Rattle.staircase.specs.Lists.{tabulate, concat}
use Rattle.staircase.specs.System.{inverse_entry}
use Rattle.staircase.specs.Rules.{entries}
use Rattle.staircase.specs.Rules.Verdict.{accepted, refused}
use Rattle.staircase.proofs.Tabulate.{tabulate-same, concat-same}
use Rattle.staircase.proofs.Rules.{design_limits}
use Rattle.text.specs.KitText.{head_bytes, list_names, row_names, pair_lines, kit_body, kit_values, tail_items, rest_format}
use Rattle.text.specs.KitReader.{firsts, seconds, packs, pack_rows, head_number, kit_params, body_scan, scan_kit, self_of, parity_of, inverse_of}
use Rattle.text.proofs.KitCounting.{pairs_count, rows-count, self-shown, parity-shown, inverse_shown}
use Rattle.text.proofs.KitTexts.{tidy_body, head_passed, kit-rest}
use Rattle.text.proofs.KitValues.{values-small, pairs_joined, entry_of, rows-bits, rows_joined, inverse-of}
use Rattle.text.proofs.KitJudged.{shown, order_found, body_found, Accepted, accepted-is}

-- ---- what an accepted text shows

-- the values of an accepted text: ps of the lists' lines and rs of the rows' lines
pub record Told (s : List ℕ) (n : ℕ) : Type 0 where
  pub order_is : order (kit_params s) ≡ n
  pub ps : List ℕ
  pub rs : List ℕ
  pub pairs_fit : Fit (pair_lines 0 n) ps
  pub rows_fit : Fit (bits_lines n 0 n) rs
  pub values_are : values_of (body_scan s) ≡ ps ++ rs
  pub body : s ≡ head_bytes (head_number s 0) (head_number s 1) (head_number s 2) ++ spell (kit_body n) (ps ++ rs)
  pub text :
      s ≡ head_bytes (head_number s 0) (head_number s 1) (head_number s 2) ++ (list_names ++ (spell (pair_lines 0 n) ps ++ (row_names ++ spell (bits_lines n 0 n) rs)))

-- the parts of the rest
pub record Body (n : ℕ) (vs : List ℕ) : Type 0 where
  pub ps : List ℕ
  pub rs : List ℕ
  pub pairs_fit : Fit (pair_lines 0 n) ps
  pub rows_fit : Fit (bits_lines n 0 n) rs
  pub values_are : vs ≡ ps ++ rs
  pub spelt : spell (kit_body n) vs ≡ list_names ++ (spell (pair_lines 0 n) ps ++ (row_names ++ spell (bits_lines n 0 n) rs))

body_parts : (n : ℕ) (vs : List ℕ) → Fit (kit_body n) vs → Body n vs
unfolding kit_body
body_parts n vs h =
    let a = lits-first list_names (pair_lines 0 n ++ tail_items n) vs h in
    let S = fit-split (pair_lines 0 n) (tail_items n) vs a.0 in
    let b = lits-first row_names (bits_lines n 0 n) S.vs S.right in
    record {
      ps = S.us;
      rs = S.vs;
      pairs_fit = S.left;
      rows_fit = b.0;
      values_are = S.all;
      spelt = a.1 ∙ ap (λ (l : List ℕ). list_names ++ l) (S.spelt ∙ ap (λ (l : List ℕ). spell (pair_lines 0 n) S.us ++ l) b.1);
    }

-- a text of items and nothing after them
end_read : (s : List ℕ) (q L : ℕ) (vs : List ℕ) → scan_at (end 0) s q ≡ format.read L vs → (drop q s ≡ []) × (vs ≡ [])
unfolding scan_at
end_read s q L vs e = go (drop q s) e
  where
    go : (l : List ℕ) → moved q (scan (end 0) l) ≡ format.read L vs → (l ≡ []) × (vs ≡ [])
    go [] f = (refl, cc)
    go (x ∷ l) f = let z : ◌≡◌ {A = ℕ} 0 1 = cc in absurd (omega arith)

pub items_read : (is : List Item) (s : List ℕ) (q L : ℕ) (vs : List ℕ) → scan_at (seq is (end 0)) s q ≡ format.read L vs
    → (e : ℕ) × (walk is s q ≡ past vs e) × (drop e s ≡ [])
items_read is s q L vs f = go (walk is s q) refl (sym (scan-seq is (end 0) s q) ∙ f)
  where
    last : (ws : List ℕ) (e : ℕ) (x : Scan) → scan_at (end 0) s e ≡ x → prefix ws x ≡ format.read L vs → (ws ≡ vs) × (drop e s ≡ [])
    last ws e (format.refused k) g h = let z : ◌≡◌ {A = ℕ} 0 1 = cc in absurd (omega arith)
    last ws e (format.read l us) g h =
        let (a, b) = end_read s e l us g in
        let c : ws ++ us ≡ vs = cc in
        (sym (append-nil ws) ∙ ap (λ (z : List ℕ). ws ++ z) (sym b) ∙ c, a)

    go : (w : Walk) → walk is s q ≡ w → continue w (λ r. scan_at (end 0) s r) ≡ format.read L vs → (e : ℕ) × (walk is s q ≡ past vs e) × (drop e s ≡ [])
    go (stuck k) e g = let z : ◌≡◌ {A = ℕ} 0 1 = cc in absurd (omega arith)
    go (past ws k) e g =
        let (a, b) = last ws k (scan_at (end 0) s k) refl g in
        (k, e ∙ ap (λ (z : List ℕ). past z k) a, b)

-- a text that is a and then b, which is x
joined : (s a b x : List ℕ) (q e : ℕ) → s ≡ a ++ drop q s → drop q s ≡ b ++ drop e s → drop e s ≡ [] → b ≡ x → s ≡ a ++ x
joined s a b x q e h p z f = h ∙ ap (λ (l : List ℕ). a ++ l) (p ∙ ap (λ (l : List ℕ). b ++ l) z ∙ append-nil b ∙ f)

pub kit-told : (s : List ℕ) → scan_kit s ≡ accepted → Told s (order (kit_params s))
unfolding values_of
kit-told s acc = go (accepted-is s acc)
  where
    told : (n : ℕ) → order (kit_params s) ≡ n → Told s n → Told s (order (kit_params s))
    told n e T = rw e T

    go : Accepted s → Told s (order (kit_params s))
    go A =
        let F = A.found in
        let S = shown s F in
        let n : ℕ = F.M * (F.m * F.t) in
        let p : n ≤ 4096 = (design_limits F.m F.t F.M 0 A.passing).order-high in
        let b : scan_at (rest_format n) s F.q ≡ format.read A.mark A.vs = sym (kit-rest s F.m F.t F.M F.q F.lines) ∙ A.scanned in
        let (e, w, z) = items_read (kit_body n) s F.q A.mark A.vs b in
        let P = walk-sound (kit_body n) s F.q A.vs e (tidy_oks (kit_body n) (tidy_body n (omega arith))) w in
        let B = body_parts n A.vs P.fit in
        told n (order_found s F)
        (record {
          order_is = order_found s F;
          ps = B.ps;
          rs = B.rs;
          pairs_fit = B.pairs_fit;
          rows_fit = B.rows_fit;
          values_are = ap values_of (body_found s F ∙ b) ∙ B.values_are;
          body =
              rw (S.first, S.second, S.third)
              (joined s (head_bytes F.m F.t F.M) (spell (kit_body n) A.vs) (spell (kit_body n) (B.ps ++ B.rs)) F.q e
              (head_passed s F.m F.t F.M F.q F.lines).spelt P.spelt z (ap (spell (kit_body n)) B.values_are));
          text =
              rw (S.first, S.second, S.third)
              (joined s (head_bytes F.m F.t F.M) (spell (kit_body n) A.vs) _ F.q e
              (head_passed s F.m F.t F.M F.q F.lines).spelt P.spelt z B.spelt);
        })

-- ---- its lists and its inverse

module _ (s : List ℕ) (n : ℕ) (T : Told s n) where
  pairs_are : length T.ps ≡ 2 * n
  pairs_are = pairs_count n 0 T.ps T.pairs_fit

  self-told : self_of s ≡ packs (firsts T.ps)
  self-told = self-shown s n T.ps T.rs T.order_is T.values_are pairs_are

  parity-told : parity_of s ≡ packs (seconds T.ps)
  parity-told = parity-shown s n T.ps T.rs T.order_is T.values_are pairs_are

  inverse-told : inverse_of s ≡ pack_rows n n T.rs
  inverse-told = inverse_shown s n T.ps T.rs T.order_is T.values_are pairs_are

-- ---- the text that the lists and the inverse show

module _ (s : List ℕ) (n : ℕ) (T : Told s n) where
  pairs : T.ps ≡ concat n (λ p. get_or (entries n (self_of s)) p 0 ∷ get_or (entries n (parity_of s)) p 0 ∷ [])
  pairs =
      pairs_joined n T.ps (pairs_are s n T)
      ∙ concat-same n _ (λ p. get_or (entries n (self_of s)) p 0 ∷ get_or (entries n (parity_of s)) p 0 ∷ [])
      (λ p h.
      let v = values-small n 0 T.ps T.pairs_fit p in
      ap₂ (λ (a b : ℕ). a ∷ b ∷ [])
      (sym (ap (λ (l : List ℕ). get_or (entries n l) p 0) (self-told s n T) ∙ entry_of n (firsts T.ps) p h v.0))
      (sym (ap (λ (l : List ℕ). get_or (entries n l) p 0) (parity-told s n T) ∙ entry_of n (seconds T.ps) p h v.1)))

  rows : T.rs ≡ concat n (λ i. tabulate n (inverse_entry (inverse_of s) n i))
  rows =
      rows_joined n n T.rs (rows-count n n 0 T.rs T.rows_fit)
      ∙ concat-same n _ (λ i. tabulate n (inverse_entry (inverse_of s) n i))
      (λ i h. tabulate-same n _ (inverse_entry (inverse_of s) n i)
      (λ j l. sym (ap (λ (w : List ℕ). inverse_entry w n i j) (inverse-told s n T) ∙ inverse-of n T.rs (rows-bits n n 0 T.rs T.rows_fit) i j h l)))

  pub rendered : s ≡ head_bytes (head_number s 0) (head_number s 1) (head_number s 2) ++ spell (kit_body n) (kit_values n (self_of s) (parity_of s) (inverse_of s))
  unfolding kit_values
  rendered = T.body ∙ ap₂ (λ (a b : List ℕ). head_bytes (head_number s 0) (head_number s 1) (head_number s 2) ++ spell (kit_body n) (a ++ b)) pairs rows
