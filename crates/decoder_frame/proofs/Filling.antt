-- Kept numbers, filled line by line.
--   line-passed, line_stored   a line that a pass does not take, and one that it takes
--   pass-none, pass_next       no line yet, and a line more
--   one_filled, both-filled    all lines, in one pass or in two
--   filled-front               numbers that came back as the first bytes of what is kept
-- Assumes nothing.
use mathlib.Core.Path.{◌≡◌, refl, sym, ap, ◌∙◌, subst}
use mathlib.Core.Bool.{Bool, true, false, not, true≢false}
use mathlib.Core.List.{List, ◌++◌}
use Prim.Native.Nat.{ℕ, ◌+◌, ◌-◌, ◌*◌, ◌≤◌, ◌<◌}
use native.Mathlib.Decide.{ℕ_discrete, dec_lt}
use native.Mathlib.Omega.{arith}
use lib.Arith.{digits_lt}
use lib.ListN.{length, get_or, take, drop, length-append, length-drop}
use Rattle.staircase.specs.Frame.{Frame}
use Rattle.staircase.proofs.Bounds.{stretch-end}
use Rattle.staircase.proofs.Tabulate.{tabulate-length, tabulate-at}
use Rattle.design.specs.Sizes.{params_of}
use Rattle.words_positions.proofs.Parts.{part-is}
use Rattle.words_blocks.proofs.Sums.{part_length}
use Rattle.decoder_kept.specs.Numbers.{kept_at, PutFrom}
use Rattle.decoder_kept.proofs.Numbers.{kept_at-front}
use Rattle.layout.specs.declared.Frames.{Frames}
use Rattle.layout.specs.declared.Pass.{Pass}
use Rattle.layout.specs.declared.PassLine.{PassLine}
use Rattle.layout.specs.Layouts.{lines_in, turned_in, taken_in}
use Rattle.words_lines.specs.Words.{layout_with, line_remainders}
use Rattle.decoder_frame.specs.Filled.{remainder_at, LineFilled, PassFilled, Filled}

-- ---- a line

module _ (at : PassLine) (own parity : List ℕ) (f : Frame) where
  abbrev g : Frames
  g = at.pass.frames

  abbrev M : ℕ
  M = g.d.size

  abbrev taken : Bool
  taken = taken_in g.shape (params_of g.d) at.pass.back at.k

  pub line-passed : (b : List ℕ) → taken_in at.pass.frames.shape (params_of at.pass.frames.d) at.pass.back at.k ≡ false → LineFilled at own parity f b b
  line-passed b none = (λ a ha e. absurd (true≢false (sym e ∙ none)), λ k a ha h. refl)

  -- the remainders are the first `size` entries of a local array, S and then E
  pub line_stored : (S E b c : List ℕ) (size from : ℕ) → size ≡ at.pass.frames.d.size → from ≡ at.k * at.pass.frames.d.size
      → taken_in at.pass.frames.shape (params_of at.pass.frames.d) at.pass.back at.k ≡ true
      → S ≡ line_remainders (layout_with at.pass.frames own parity) f at.k → PutFrom (take (size - 0) (drop 0 (S ++ E))) from b c
      → LineFilled at own parity f b c
  line_stored S E b c size from es ef here is P =
      let right : ℕ → ℕ = remainder_at g own parity f at.k in
      let long : length S ≡ M = ap length is ∙ tabulate-length M right in
      let all : length S ≡ size = long ∙ sym es in
      let Q : PutFrom S from b c = subst (λ (u : List ℕ). PutFrom u from b c) (part-is S E size all) P in (
        λ a ha e. let n : at.k * M + a ≡ from + a = omega (arith, ef) in
            ap (kept_at c) n ∙ Q.here a (omega (arith, long, ha)) ∙ ap (λ (u : List ℕ). get_or u a 0) is ∙ tabulate-at M right 0 a ha,
        λ k a ha h. other Q long k a ha (dec_lt k at.k) (λ e. true≢false (sym here ∙ h e)),
      )
    where
      other : PutFrom S from b c → length S ≡ M → (k a : ℕ) → a < M → Dec (k < at.k) → (k ≡ at.k → ⊥) → kept_at c (k * M + a) ≡ kept_at b (k * M + a)
      other Q long k a ha (yes h) ne = Q.before (k * M + a) (omega (arith, stretch-end k at.k M h, ef, ha))
      other Q long k a ha (no h) ne =
          let later : at.k < k = after k h ne in
          Q.behind (k * M + a) (omega (arith, stretch-end at.k k M later, ef, long))
        where
          after : (k : ℕ) → (k < at.k → ⊥) → (k ≡ at.k → ⊥) → at.k < k
          after k h ne = go (dec_lt at.k k)
            where
              go : Dec (at.k < k) → at.k < k
              go (yes l) = l
              go (no l) = absurd (ne (omega (arith, h, l)))

-- ---- the lines of a pass

module _ (pass : Pass) (own parity : List ℕ) (f : Frame) where
  pub pass-none : (b : List ℕ) → PassFilled pass own parity f 0 b b
  pass-none b = (λ k a hk ha e. absurd (let n : ⊥ = omega (arith, hk) in n), λ k a ha h. refl)

  pub pass_next : (n : ℕ) (b m c : List ℕ) → PassFilled pass own parity f n b m → LineFilled (record { pass = pass; k = n }) own parity f m c
      → PassFilled pass own parity f (n + 1) b c
  pass_next n b m c F L = (
    λ k a hk ha e. here k a hk ha e (ℕ_discrete k n),
    λ k a ha h. L.1 k a ha (λ e. subst (λ (j : ℕ). taken_in g.shape (params_of g.d) pass.back j ≡ false) e (h (let l : k < n + 1 = omega (arith, e) in l)))
        ∙ F.1 k a ha (λ l. h (let q : k < n + 1 = omega (arith, l) in q)),
  )
    where
      g : Frames
      g = pass.frames

      here : (k a : ℕ) → k < n + 1 → a < pass.frames.d.size → taken_in pass.frames.shape (params_of pass.frames.d) pass.back k ≡ true → Dec (k ≡ n)
          → kept_at c (k * pass.frames.d.size + a) ≡ remainder_at pass.frames own parity f k a
      here k a hk ha e (yes q) =
          ap (λ (j : ℕ). kept_at c (j * pass.frames.d.size + a)) q
          ∙ L.0 a ha (subst (λ (j : ℕ). taken_in pass.frames.shape (params_of pass.frames.d) pass.back j ≡ true) q e)
          ∙ ap (λ (j : ℕ). remainder_at pass.frames own parity f j a) (sym q)
      here k a hk ha e (no q) = L.1 k a ha (λ d. absurd (q d)) ∙ F.0 k a (lower hk q) ha e
        where
          lower : {k : ℕ} → k < n + 1 → (k ≡ n → ⊥) → k < n
          lower {k} hk q = go (dec_lt k n)
            where
              go : Dec (k < n) → k < n
              go (yes l) = l
              go (no l) = absurd (q (omega (arith, hk, l)))

-- ---- all lines

module _ (g : Frames) (own parity : List ℕ) (f : Frame) (b : List ℕ) where
  pub one_filled : (c : List ℕ) → ((k : ℕ) → turned_in g.shape (params_of g.d) k ≡ false)
      → PassFilled (record { frames = g; back = false }) own parity f (lines_in g.shape g.blocks) b c → Filled g own parity f c
  unfolding taken_in
  one_filled c ahead F k a hk ha = F.0 k a hk ha (ap not (ahead k))

  pub both-filled : (m c : List ℕ) → PassFilled (record { frames = g; back = false }) own parity f (lines_in g.shape g.blocks) b m
      → PassFilled (record { frames = g; back = true }) own parity f (lines_in g.shape g.blocks) m c → Filled g own parity f c
  unfolding taken_in
  both-filled m c F B k a hk ha = go (turned_in g.shape (params_of g.d) k) refl
    where
      go : (z : Bool) → turned_in g.shape (params_of g.d) k ≡ z → kept_at c (k * g.d.size + a) ≡ remainder_at g own parity f k a
      go true e = B.0 k a hk ha e
      go false e = B.1 k a ha (λ h. e) ∙ F.0 k a hk ha (ap not e)

-- n bytes of `kept` were lent, and came back as b
pub filled-front : (g : Frames) (own parity : List ℕ) (f : Frame) (kept b : List ℕ) (n : ℕ) → n ≡ 4 * (lines_in g.shape g.blocks * g.d.size) → n ≤ length kept
    → length b ≡ length (take (n - 0) (drop 0 kept)) → Filled g own parity f b
    → (length (b ++ drop (n - 0) kept) ≡ length kept) × Filled g own parity f (b ++ drop (n - 0) kept)
filled-front g own parity f kept b n e h long H =
    let all : length b ≡ n = long ∙ part_length kept 0 n n (omega arith) h in (
      omega (arith, length-append b (drop (n - 0) kept), length-drop (n - 0) kept, all, h),
      λ k a hk ha. kept_at-front b (drop (n - 0) kept) (lines_in g.shape g.blocks * g.d.size) (k * g.d.size + a) (all ∙ e) (digits_lt hk ha) ∙ H k a hk ha,
    )
