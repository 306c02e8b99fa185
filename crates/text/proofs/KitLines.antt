-- A text that does not start with two lines: the longest start that it shares with two lines is the longest that it shares with texts of two lines and some
-- items, as kit texts are, of any numbers.
--   head_text        two lines alone
--   headed_text      every two lines start such a text
--   headed_longest   the longest start
-- Assumes nothing.
use Prim.Native.Nat.{ℕ, ◌+◌, ◌-◌, ◌*◌, ◌≤◌, ◌<◌}
use mathlib.Core.Path.{◌≡◌, refl, sym, ap, ◌∙◌, subst}
use mathlib.Core.List.{List, [], ◌∷◌, ◌++◌, append-nil, append_assoc}
use native.Mathlib.Omega.{arith}
use native.Mathlib.Decide.{dec_lt}
use lib.ListN.{length, take, drop, replicate, take-append-drop}
use lib.Seq.{length-take-le, take_at, take-append-le, take-append-add}
use Rattle.text_formats.specs.Format.{Item, byte, num, bit, end, Renders, Text, Shares, Longest}
use Rattle.text_formats.specs.Items.{lits, seq, spell, Fit}
use Rattle.text_formats.proofs.Takes.{takes}
use Rattle.text_formats.proofs.Spelling.{seq_renders, renders_seq, Spelt, spell-lits, fit-lits}
use Rattle.text.specs.KitText.{head_items, head_format, head_bytes, ShortNumbers, StartsKit}
use Rattle.text.proofs.KitTexts.{headed, HeadedText, headed_starts}

-- zeros fit any items
zeros-fit : (is : List Item) → Fit is (replicate (takes is) 0)
unfolding takes
zeros-fit [] = tt
zeros-fit (byte b ∷ is) = zeros-fit is
zeros-fit (num ∷ is) = (omega arith, zeros-fit is)
zeros-fit (bit ∷ is) = (omega arith, zeros-fit is)

-- two lines alone
pub record Head (x : List ℕ) : Type 0 where
  pub m : ℕ
  pub t : ℕ
  pub M : ℕ
  pub short : ShortNumbers m t M
  pub text : x ≡ head_bytes m t M

pub head_text : (x : List ℕ) → Text head_format x → Head x
head_text x (L, vs, r) = go (renders_seq head_items (end 0) L vs x r)
  where
    three : (ws : List ℕ) → Fit head_items ws → x ≡ spell head_items ws → Head x
    three [] f e = absurd f
    three (a ∷ []) f e = absurd f.1
    three (a ∷ b ∷ []) f e = absurd f.1.1
    three (a ∷ b ∷ c ∷ []) f e = record { m = a; t = b; M = c; short = (f.0, f.1.0, f.1.1.0); text = e }
    three (a ∷ b ∷ c ∷ d ∷ ws) f e = absurd f.1.1.1

    go : Spelt head_items (end 0) L vs x → Head x
    go (ws, us, y, f, e, g, (h, i, j)) = three ws f (g ∙ ap (λ (z : List ℕ). spell head_items ws ++ z) j ∙ append-nil (spell head_items ws))

lines-text : (m t M : ℕ) → ShortNumbers m t M → Text head_format (head_bytes m t M)
lines-text m t M h = (
  0,
  (m ∷ t ∷ M ∷ []),
  subst (λ (x : List ℕ). Renders head_format 0 (m ∷ t ∷ M ∷ []) x) (append-nil (head_bytes m t M))
      (seq_renders head_items (end 0) 0 (m ∷ t ∷ M ∷ []) [] [] (h.0, (h.1, (h.2, tt))) (refl, refl, refl)),
)

-- every two lines start such a text
pub headed_text : (body : ℕ → List Item) (m t M : ℕ) → (b : List ℕ) × Text (headed body m t M) (head_bytes m t M ++ b)
headed_text body m t M =
    let n : ℕ = M * (m * t) in
    let zs : List ℕ = replicate (takes (body n)) 0 in
    let hb : List ℕ = head_bytes m t M in
    let rest : List ℕ = spell (body n) zs ++ [] in
    let inner = seq_renders (body n) (end 0) 0 zs [] [] (zeros-fit (body n)) (refl, refl, refl) in
    let whole = seq_renders (lits hb) (seq (body n) (end 0)) 0 [] (zs ++ []) rest (fit-lits hb) inner in
    (rest, (0, zs ++ [], subst (λ (x : List ℕ). Renders (headed body m t M) 0 (zs ++ []) (x ++ rest)) (spell-lits hb) whole))

pub headed_longest : (body : ℕ → List Item) (s : List ℕ) → ((m t M : ℕ) → StartsKit m t M s → ⊥) → (k : ℕ)
    → Longest (Text head_format) s k → Longest (HeadedText body ShortNumbers) s k
headed_longest body s none k l = record { shared = shared l.shared; most = most }
  where
    shared : Shares (Text head_format) s k → Shares (HeadedText body ShortNumbers) s k
    shared (h, (u, x)) =
        let H = head_text (take k s ++ u) x in
        let (b, y) = headed_text body H.m H.t H.M in
        let e : head_bytes H.m H.t H.M ++ b ≡ take k s ++ (u ++ b) = ap (λ (z : List ℕ). z ++ b) (sym H.text) ∙ append_assoc (take k s) u b in
        (h, (u ++ b, (H.m, H.t, H.M, H.short, subst (λ (z : List ℕ). Text (headed body H.m H.t H.M) z) e y)))

    most : (j : ℕ) → Shares (HeadedText body ShortNumbers) s j → j ≤ k
    most j (h, (u, (m, t, M, d, x))) = go (headed_starts body m t M (take j s ++ u) x) (dec_lt (length (head_bytes m t M)) j)
      where
        go : (r : List ℕ) × (take j s ++ u ≡ head_bytes m t M ++ r) → Dec (length (head_bytes m t M) < j) → j ≤ k
        go (r, e) (yes o) =
            let b : List ℕ = head_bytes m t M in
            let c : ℕ = j - length b in
            let z : j ≡ length b + c = omega arith in
            let first : take j s ≡ b ++ take c r =
            sym (take_at (take j s) u j (length-take-le j s h)) ∙ ap (λ (y : List ℕ). take j y) e ∙ ap (λ (n : ℕ). take n (b ++ r)) z ∙ take-append-add b r c in
            absurd
            (none m t M
            (record {
              m-short = d.0;
              t-short = d.1;
              M-short = d.2;
              rest = take c r ++ drop j s;
              text = sym (take-append-drop j s) ∙ ap (λ (y : List ℕ). y ++ drop j s) first ∙ append_assoc b (take c r) (drop j s);
            }))
        go (r, e) (no o) =
            let b : List ℕ = head_bytes m t M in
            let first : take j s ≡ take j b =
            sym (take_at (take j s) u j (length-take-le j s h)) ∙ ap (λ (y : List ℕ). take j y) e ∙ take-append-le j b r (omega arith) in
            let same : b ≡ take j s ++ drop j b = sym (take-append-drop j b) ∙ ap (λ (y : List ℕ). y ++ drop j b) (sym first) in
            l.most j (h, (drop j b, subst (λ (y : List ℕ). Text head_format y) same (lines-text m t M d)))
