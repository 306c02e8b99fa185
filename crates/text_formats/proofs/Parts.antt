-- Lists of items put together: the values and the bytes of each part.
--   fit_append             the values of two lists of items, one after the other, and what they spell
--   Split, fit-split       the same, taken apart
--   fit_none, lits-first   fixed bytes have no values
--   spell_then             fixed bytes, and items after them
--   lits-length            as many items as bytes
--   seq-append             the format of two lists, one after the other
-- Assumes nothing.
use Prim.Native.Nat.{ℕ, suc, ◌+◌, ◌%◌}
use mathlib.Core.Path.{◌≡◌, refl, sym, ap, ◌∙◌}
use mathlib.Core.List.{List, [], ◌∷◌, ◌++◌, append_assoc}
use lib.ListN.{length}
use Rattle.text_formats.specs.Format.{Item, byte, num, bit, dec, Format, ◌▷◌}
use Rattle.text_formats.specs.Items.{lits, seq, spell, Fit}

pub fit_append : (is js : List Item) (ws us : List ℕ) → Fit is ws → Fit js us → Fit (is ++ js) (ws ++ us) × (spell (is ++ js) (ws ++ us) ≡ spell is ws ++ spell js us)
fit_append [] js [] us f g = (g, refl)
fit_append [] js (w ∷ ws) us f g = absurd f
fit_append (byte b ∷ is) js ws us f g = let (h, e) = fit_append is js ws us f g in (h, ap (λ (l : List ℕ). b ∷ l) e)
fit_append (num ∷ is) js [] us f g = absurd f
fit_append (num ∷ is) js (w ∷ ws) us f g =
    let (h, e) = fit_append is js ws us f.1 g in
    ((f.0, h), ap (λ (l : List ℕ). dec w ++ l) e ∙ sym (append_assoc (dec w) (spell is ws) (spell js us)))
fit_append (bit ∷ is) js [] us f g = absurd f
fit_append (bit ∷ is) js (w ∷ ws) us f g = let (h, e) = fit_append is js ws us f.1 g in ((f.0, h), ap (λ (l : List ℕ). (48 + w % 2) ∷ l) e)

pub record Split (is js : List Item) (ws : List ℕ) : Type 0 where
  pub us : List ℕ
  pub vs : List ℕ
  pub all : ws ≡ us ++ vs
  pub left : Fit is us
  pub right : Fit js vs
  pub spelt : spell (is ++ js) ws ≡ spell is us ++ spell js vs

pub fit-split : (is js : List Item) (ws : List ℕ) → Fit (is ++ js) ws → Split is js ws
fit-split [] js ws h = record { us = []; vs = ws; all = refl; left = tt; right = h; spelt = refl }
fit-split (byte b ∷ is) js ws h =
    let S = fit-split is js ws h in
    record { us = S.us; vs = S.vs; all = S.all; left = S.left; right = S.right; spelt = ap (λ (l : List ℕ). b ∷ l) S.spelt }
fit-split (num ∷ is) js [] h = absurd h
fit-split (num ∷ is) js (v ∷ ws) h =
    let S = fit-split is js ws h.1 in
    record {
      us = v ∷ S.us;
      vs = S.vs;
      all = ap (λ (l : List ℕ). v ∷ l) S.all;
      left = (h.0, S.left);
      right = S.right;
      spelt = ap (λ (l : List ℕ). dec v ++ l) S.spelt ∙ sym (append_assoc (dec v) (spell is S.us) (spell js S.vs));
    }
fit-split (bit ∷ is) js [] h = absurd h
fit-split (bit ∷ is) js (v ∷ ws) h =
    let S = fit-split is js ws h.1 in
    record {
      us = v ∷ S.us;
      vs = S.vs;
      all = ap (λ (l : List ℕ). v ∷ l) S.all;
      left = (h.0, S.left);
      right = S.right;
      spelt = ap (λ (l : List ℕ). (48 + v % 2) ∷ l) S.spelt;
    }

-- fixed bytes have no values
pub fit_none : (b ws : List ℕ) → Fit (lits b) ws → ws ≡ []
fit_none [] [] h = refl
fit_none [] (w ∷ ws) h = absurd h
fit_none (x ∷ b) ws h = fit_none b ws h

pub lits-length : (b : List ℕ) → length (lits b) ≡ length b
lits-length [] = refl
lits-length (x ∷ b) = ap suc (lits-length b)

-- fixed bytes, and items after them
pub spell_then : (b : List ℕ) (is : List Item) (vs : List ℕ) → spell (lits b ++ is) vs ≡ b ++ spell is vs
spell_then [] is vs = refl
spell_then (c ∷ b) is vs = ap (λ (t : List ℕ). c ∷ t) (spell_then b is vs)

pub lits-first : (b : List ℕ) (is : List Item) (ws : List ℕ) → Fit (lits b ++ is) ws → Fit is ws × (spell (lits b ++ is) ws ≡ b ++ spell is ws)
lits-first [] is ws h = (h, refl)
lits-first (x ∷ b) is ws h = let r = lits-first b is ws h in (r.0, ap (λ (l : List ℕ). x ∷ l) r.1)

-- the format of two lists
pub seq-append : (is js : List Item) (F : Format) → seq (is ++ js) F ≡ seq is (seq js F)
seq-append [] js F = refl
seq-append (i ∷ is) js F = ap (λ (G : Format). i ▷ G) (seq-append is js F)
