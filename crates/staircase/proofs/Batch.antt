-- Frames of one length under one kit: each is encoded as it would be alone, and none depends on another.
--   frame-length, frame-at, frame-bits   the stretch of a frame: its length, its bytes, and that they are bits
--   joined_frame                         the stretches of lists that are joined
--   batch_one, batch_single              the redundancy of a single frame, and the call on it
--   batch_limits                         rule 17
--   batch_given                          of an accepted batch each frame is as demand 3 takes it for given
--   batch-few, batch-made, batch-long    the number of frames of an accepted batch, what it leaves, and how long that is
--   batch-alone, batch-refused, batch-accepted, batch-others, batch-reach   the promises
--   batch-frames                         all of them
-- Assumes nothing.
use mathlib.Core.Path.{◌≡◌, refl, sym, ap, ap₂, ◌∙◌, subst}
use mathlib.Core.Logic.{◌≢◌, ◌↔◌}
use mathlib.Core.List.{List, append-nil}
use Prim.Native.Nat.{ℕ, ◌+◌, ◌*◌, ◌/◌, ◌%◌, ◌≤◌, ◌<◌}
use native.Mathlib.Nat.{mod-lt, div-add-mod', div-lt_iff_lt-mul, mul-pos, zero-mul, one-mul}
use native.Mathlib.Decide.{dec_lt}
use native.Mathlib.Omega.{arith}
use lib.Arith.{digits_div}
use lib.ListN.{length, get_or, take, drop, length-take, length-drop, get_or-eq_default}
use lib.Seq.{ext_get_or, get_or-take, get_or-drop, length-take-le, take_all}
use Rattle.bch.specs.Polynomial.{Bits}
use Rattle.staircase.specs.Lists.{tabulate, concat}
use Rattle.staircase.specs.Design.{Params, Interleavers, params, order, most-blocks}
use Rattle.staircase.specs.System.{redundancy}
use Rattle.staircase.specs.Rules.{Verdict, ◌then◌, out_of_range, design_rules, count_rule, length_rule, kit_lengths, info_length, red_length, frame_lengths, kit_work, interleavers, bit_rule, kit_rules, content_rules}
use Rattle.staircase.specs.Rules.Verdict.{accepted, refused}
use Rattle.staircase.specs.Calls.{Encoded, encoded_by, encode_verdict, encode_call}
use Rattle.staircase.specs.Batch.{most-frames, batch_rule, batch_lengths, batch_verdict, frame_at, batch_redundancy, batch_call}
use Rattle.staircase.specs.Demand3.{Kit, sizes, lists, encode, Given, SameBut, SameButTwo}
use Rattle.staircase.specs.BatchFrames.{encode_batch, info_at, red_at, BatchFrames}
use Rattle.staircase.proofs.Bounds.{stretch-end}
use Rattle.staircase.proofs.Tabulate.{tabulate-length, concat-length, concat-at}
use Rattle.staircase.proofs.Rules.{then_first, then_rest, then_accepted, refuse-false, refuse-accepted, out_of_range-false, in_range, design_limits, count_limits, length_equal, length-accepted, lengths_fit, lengths_accepted, bytes_bits, bits-accepted, content_accepted, accepted_content}
use Rattle.staircase.proofs.BchCode.{proper_of}
use Rattle.staircase.proofs.Redundancy.{redundancy-length}
use Rattle.staircase.proofs.Demand2.{kit-passes}
use Rattle.staircase.proofs.Demand3.{encode-made, demand3}
use Rattle.staircase.proofs.Encoded.{encoded_by-verdict, encode-accepted}

-- ---- stretches

module _ (long : ℕ) (joined : List ℕ) where
  pub frame-length : (n : ℕ) → length joined ≡ n * long → (f : ℕ) → f < n → length (frame_at long joined f) ≡ long
  frame-length n e f h =
      length-take-le long (drop (f * long) joined) (omega (arith, length-drop (f * long) joined, e, stretch-end f n long h))

  pub frame-at : (f q : ℕ) → q < long → get_or (frame_at long joined f) q 0 ≡ get_or joined (f * long + q) 0
  frame-at f q h = get_or-take long (drop (f * long) joined) q 0 h ∙ get_or-drop (f * long) joined q 0

  pub frame-bits : Bits joined → (f : ℕ) → Bits (frame_at long joined f)
  frame-bits b f q = go (dec_lt q long)
    where
      go : Dec (q < long) → get_or (frame_at long joined f) q 0 < 2
      go (yes h) = subst (λ (z : ℕ). z < 2) (sym (frame-at f q h)) (b (f * long + q))
      go (no h) =
          let z : get_or (frame_at long joined f) q 0 ≡ 0 =
          get_or-eq_default (frame_at long joined f) 0 (omega (arith, h, length-take long (drop (f * long) joined))) in omega (arith, z)

  -- and back: bits in each frame
  bits-frames : (n : ℕ) → length joined ≡ n * long → 0 < long → ((f : ℕ) → f < n → Bits (frame_at long joined f)) → Bits joined
  bits-frames n e pos h k = go (dec_lt k (length joined))
    where
      go : Dec (k < length joined) → get_or joined k 0 < 2
      go (yes l) =
          let f : k / long < n = (div-lt_iff_lt-mul pos).1 (subst (λ (z : ℕ). k < z) e l) in
          let q : k % long < long = mod-lt k pos in
          subst (λ (z : ℕ). z < 2) (frame-at (k / long) (k % long) q ∙ ap (λ (z : ℕ). get_or joined z 0) (div-add-mod' k long)) (h (k / long) f (k % long))
      go (no l) = let z : get_or joined k 0 ≡ 0 = get_or-eq_default joined 0 (omega arith) in omega (arith, z)

pub joined_frame : (n long : ℕ) (g : ℕ → List ℕ) → ((k : ℕ) → length (g k) ≡ long) → (f : ℕ) → f < n → frame_at long (concat n g) f ≡ g f
joined_frame n long g h f l =
    let wide = frame-length long (concat n g) n (concat-length n long g h) f l in
    ext_get_or 0 (frame_at long (concat n g) f) (g f) (wide ∙ sym (h f))
    (λ q k.
    let m : q < long = subst (λ (z : ℕ). q < z) wide k in
    frame-at long (concat n g) f q m ∙ concat-at n long g h f q l m)

-- two buffers that agree outside stretch f
others_same : (long n : ℕ) (u v : List ℕ) → length u ≡ n * long → length v ≡ n * long → (f : ℕ) → SameBut long f u v → (k : ℕ) → k < n → k ≢ f
    → frame_at long u k ≡ frame_at long v k
others_same long n u v hu hv f same k l d =
    let wide = frame-length long u n hu k l in
    ext_get_or 0 (frame_at long u k) (frame_at long v k) (wide ∙ sym (frame-length long v n hv k l))
    (λ q h.
    let m : q < long = subst (λ (z : ℕ). q < z) wide h in
    frame-at long u k q m ∙ same (k * long + q) (λ e. d (sym (digits_div k m) ∙ e)) ∙ sym (frame-at long v k q m))

-- ---- rule 17

pub batch_limits : (n : ℕ) → batch_rule n ≡ accepted → (1 ≤ n) × (n ≤ most-frames)
unfolding batch_rule
batch_limits n e = out_of_range-false 1 most-frames n (refuse-false (out_of_range 1 most-frames n) 17 n e)

limits_batch : (n : ℕ) → 1 ≤ n → n ≤ most-frames → batch_rule n ≡ accepted
unfolding batch_rule
limits_batch n a b = refuse-accepted 17 n (in_range 1 most-frames n a b)

-- ---- the call

module _ (K : Kit) (L n : ℕ) (info red : List ℕ) (work : ℕ) where
  abbrev s : Params
  s = sizes K

  abbrev l : Interleavers
  l = lists K

  abbrev verdict : Verdict
  verdict = batch_verdict K.m K.t K.M K.col L n K.self K.parity K.inverse info red work

  abbrev new : List ℕ
  new = batch_redundancy (sizes K) (lists K) K.inverse L n info

  -- "or none is touched"
  pub batch-refused : (encode_batch K L n info red work).verdict ≢ accepted → (encode_batch K L n info red work).red ≡ red
  unfolding batch_call
  batch-refused = go verdict
    where
      go : (v : Verdict) → (encoded_by v red new).verdict ≢ accepted → (encoded_by v red new).red ≡ red
      go accepted h = absurd (h refl)
      go (refused i p) h = refl

  of_verdict : (encode_batch K L n info red work).verdict ≡ accepted → batch_verdict K.m K.t K.M K.col L n K.self K.parity K.inverse info red work ≡ accepted
  unfolding batch_call
  of_verdict e = sym (encoded_by-verdict verdict red new) ∙ e

  module _ (e : (encode_batch K L n info red work).verdict ≡ accepted) where
    abbrev contents : Verdict
    contents = content_rules (sizes K) (lists K) K.inverse info

    abbrev v6 : Verdict
    v6 = length_rule 6 work (kit_work (sizes K)) then content_rules (sizes K) (lists K) K.inverse info

    abbrev lengths : Verdict
    lengths = batch_lengths (sizes K) L n info red

    abbrev kit : Verdict
    kit = kit_lengths (sizes K) K.self K.parity K.inverse

    abbrev numbers : Verdict
    numbers = batch_rule n then kit then lengths then v6

    whole-verdict : (design_rules K.m K.t K.M K.col then count_rule L then numbers) ≡ accepted
    unfolding batch_verdict
    whole-verdict = of_verdict e

    designed : design_rules K.m K.t K.M K.col ≡ accepted
    designed = then_first (design_rules K.m K.t K.M K.col) (count_rule L then numbers) whole-verdict

    after-design : (count_rule L then numbers) ≡ accepted
    after-design = then_rest (design_rules K.m K.t K.M K.col) (count_rule L then numbers) whole-verdict

    after-count : numbers ≡ accepted
    after-count = then_rest (count_rule L) numbers after-design

    after-batch : (kit then lengths then v6) ≡ accepted
    after-batch = then_rest (batch_rule n) (kit then lengths then v6) after-count

    after-kit : (lengths then v6) ≡ accepted
    after-kit = then_rest kit (lengths then v6) after-batch

    content : (kit_rules s l K.inverse ≡ accepted) × (bit_rule 0 info ≡ accepted)
    content = content_accepted s l K.inverse info (then_rest (length_rule 6 work (kit_work s)) contents (then_rest lengths v6 after-kit))

    pub batch-few : (1 ≤ n) × (n ≤ most-frames)
    batch-few = batch_limits n (then_first (batch_rule n) (kit then lengths then v6) after-count)

    info-long : length info ≡ n * info_length s L
    unfolding batch_lengths
    info-long = length_equal 4 (length info) (n * info_length s L) (then_first (length_rule 4 (length info) (n * info_length s L)) (length_rule 5 (length red) (n * red_length s L)) (then_first lengths v6 after-kit))

    -- frame f alone, over any old redundancy of its length
    pub batch_given : (f : ℕ) → f < n → (old : List ℕ) → length old ≡ red_length (sizes K) L → Given K L (info_at K L info f) old
    batch_given f h old long =
        let count = count_limits L (then_first (count_rule L) numbers after-design) in
        record {
          design = designed;
          fits = lengths_fit s K.self K.parity K.inverse (then_first kit (lengths then v6) after-batch);
          passes = (kit-passes s l K.inverse (proper_of (design_limits K.m K.t K.M K.col designed))).0 content.0;
          some = count.0;
          few = count.1;
          bits = frame-bits (info_length s L) info (bytes_bits 0 info content.1) f;
          info-fits = frame-length (info_length s L) info n info-long f h;
          old_fits = long;
        }

    pub batch-made : (encode_batch K L n info red work).red ≡ batch_redundancy (sizes K) (lists K) K.inverse L n info
    unfolding batch_call
    batch-made = ap (λ (v : Verdict). (encoded_by v red new).red) (of_verdict e)

    abbrev part : ℕ → List ℕ
    part f = redundancy (sizes K) (lists K) K.inverse L (info_at K L info f)

    part_length : (f : ℕ) → length (part f) ≡ red_length s L
    part_length f =
        let passes = (kit-passes s l K.inverse (proper_of (design_limits K.m K.t K.M K.col designed))).0 content.0 in
        redundancy-length s l L (proper_of (design_limits K.m K.t K.M K.col designed)) passes.self passes.parity K.inverse (info_at K L info f)

    pub batch-long : length (encode_batch K L n info red work).red ≡ n * red_length (sizes K) L
    unfolding batch_redundancy
    batch-long = ap length batch-made ∙ concat-length n (red_length s L) part part_length

    -- "every frame is encoded as it would be alone"
    pub batch-alone : (f : ℕ) → f < n → (old : List ℕ) → length old ≡ red_length (sizes K) L
        → encode K L (info_at K L info f) old ≡ record { verdict = accepted; red = red_at K L (encode_batch K L n info red work).red f }
    unfolding batch_redundancy
    batch-alone f h old long =
        let G = batch_given f h old long in
        encode-made K L (info_at K L info f) old G (info_at K L info f) old G.bits G.info-fits G.old_fits
        ∙ ap (λ (x : List ℕ). record { verdict = accepted; red = x })
        (sym (ap (λ (x : List ℕ). red_at K L x f) batch-made ∙ joined_frame n (red_length s L) part part_length f h))

-- ---- accepted exactly when each frame is

module _ (K : Kit) (L n : ℕ) (info red : List ℕ) (hi : length info ≡ n * info_length (sizes K) L) (hr : length red ≡ n * red_length (sizes K) L) where
  abbrev s₂ : Params
  s₂ = sizes K

  frames-accepted : (1 ≤ n) → n ≤ most-frames → ((f : ℕ) → f < n → (encode K L (info_at K L info f) (red_at K L red f)).verdict ≡ accepted)
      → (encode_batch K L n info red (kit_work (sizes K))).verdict ≡ accepted
  unfolding batch_call batch_verdict batch_lengths encode_call count_rule
  frames-accepted some few each =
      let work : ℕ = kit_work s₂ in
      let given : (f : ℕ) → f < n → Given K L (info_at K L info f) (red_at K L red f) = λ f h.
      encode-accepted K L (info_at K L info f) (red_at K L red f) work
      (sym (encoded_by-verdict (encode_verdict K.m K.t K.M K.col L K.self K.parity K.inverse (info_at K L info f) (red_at K L red f) work) (red_at K L red f)
      (redundancy s₂ (lists K) K.inverse L (info_at K L info f))) ∙ each f h) in
      let G = given 0 (omega arith) in
      let limits = design_limits K.m K.t K.M K.col G.design in
      let area : 0 < info_length s₂ L = mul-pos G.some (mul-pos limits.M-low limits.M-low) in
      let bits : Bits info = bits-frames (info_length s₂ L) info n hi area (λ f h. (given f h).bits) in
      encoded_by-verdict _ red (batch_redundancy s₂ (lists K) K.inverse L n info)
      ∙ then_accepted G.design (then_accepted (refuse-accepted 4 L (in_range 1 most-blocks L G.some G.few)) (then_accepted (limits_batch n some few)
      (then_accepted (lengths_accepted s₂ K.self K.parity K.inverse G.fits)
      (then_accepted (then_accepted (length-accepted 4 (length info) (n * info_length s₂ L) hi) (length-accepted 5 (length red) (n * red_length s₂ L) hr))
      (then_accepted (length-accepted 6 work work refl)
      (accepted_content s₂ (lists K) K.inverse info ((kit-passes s₂ (lists K) K.inverse (proper_of limits)).1 G.passes) (bits-accepted 0 info bits)))))))

  pub batch-accepted : ((encode_batch K L n info red (kit_work (sizes K))).verdict ≡ accepted)
      ↔ ((1 ≤ n) × (n ≤ most-frames) × ((f : ℕ) → f < n → (encode K L (info_at K L info f) (red_at K L red f)).verdict ≡ accepted))
  batch-accepted = (
    λ e. (
      (batch-few K L n info red (kit_work s₂) e).0,
      (batch-few K L n info red (kit_work s₂) e).1,
      λ f h. ap (λ (x : Encoded). x.verdict) (batch-alone K L n info red (kit_work s₂) e f h (red_at K L red f) (frame-length (red_length s₂ L) red n hr f h)),
    ),
    λ t. frames-accepted t.0 t.1 t.2,
  )

-- ---- two batches

module _ (K : Kit) (L n : ℕ) (info red info₂ red₂ : List ℕ) (work : ℕ)
    (e : (encode_batch K L n info red work).verdict ≡ accepted) (e₂ : (encode_batch K L n info₂ red₂ work).verdict ≡ accepted) where
  -- any redundancy of a frame's length
  old : List ℕ
  old = tabulate (red_length (sizes K) L) (λ q. 0)

  old_long : length old ≡ red_length (sizes K) L
  unfolding old
  old_long = tabulate-length (red_length (sizes K) L) (λ q. 0)

  first : (f : ℕ) → f < n → (encode K L (info_at K L info f) old).red ≡ red_at K L (encode_batch K L n info red work).red f
  first f h = ap (λ (x : Encoded). x.red) (batch-alone K L n info red work e f h old old_long)

  second : (f : ℕ) → f < n → (encode K L (info_at K L info₂ f) old).red ≡ red_at K L (encode_batch K L n info₂ red₂ work).red f
  second f h = ap (λ (x : Encoded). x.red) (batch-alone K L n info₂ red₂ work e₂ f h old old_long)

  -- "A block changed in one frame alters no other frame's groups"
  pub batch-others : (f : ℕ) → SameBut (info_length (sizes K) L) f info info₂ → (k : ℕ) → k < n → k ≢ f
      → red_at K L (encode_batch K L n info red work).red k ≡ red_at K L (encode_batch K L n info₂ red₂ work).red k
  batch-others f same k h d =
      let a = info-long K L n info red work e in
      let b = info-long K L n info₂ red₂ work e₂ in
      sym (first k h) ∙ ap (λ (x : List ℕ). (encode K L x old).red) (others_same (info_length (sizes K) L) n info info₂ a b f same k h d) ∙ second k h

  -- "and within its own only those already named for single frames"
  pub batch-reach : (f : ℕ) → f < n → (i : ℕ)
      → (SameBut (K.M * K.M) (2 * i) (info_at K L info f) (info_at K L info₂ f)
      → SameBut (2 * order (sizes K)) i (red_at K L (encode_batch K L n info red work).red f) (red_at K L (encode_batch K L n info₂ red₂ work).red f))
      × (SameBut (K.M * K.M) (2 * i + 1) (info_at K L info f) (info_at K L info₂ f)
      → SameButTwo (2 * order (sizes K)) i (i + 1) (red_at K L (encode_batch K L n info red work).red f) (red_at K L (encode_batch K L n info₂ red₂ work).red f))
  batch-reach f h i =
      let G = batch_given K L n info red work e f h old old_long in
      let G₂ = batch_given K L n info₂ red₂ work e₂ f h old old_long in
      let D = demand3 K L (info_at K L info f) old G in
      let made : D.made ≡ red_at K L (encode_batch K L n info red work).red f = sym (ap (λ (x : Encoded). x.red) D.encodes) ∙ first f h in
      let like : (length (info_at K L info₂ f) ≡ length (info_at K L info f)) × Bits (info_at K L info₂ f) = (G₂.info-fits ∙ sym G.info-fits, G₂.bits) in (
        λ same. subst (λ (x : List ℕ). SameBut (2 * order (sizes K)) i x (red_at K L (encode_batch K L n info₂ red₂ work).red f)) made
            (subst (SameBut (2 * order (sizes K)) i D.made) (second f h) (D.reach_odd (info_at K L info₂ f) old like refl i same)),
        λ same. subst (λ (x : List ℕ). SameButTwo (2 * order (sizes K)) i (i + 1) x (red_at K L (encode_batch K L n info₂ red₂ work).red f)) made
            (subst (SameButTwo (2 * order (sizes K)) i (i + 1) D.made) (second f h) (D.reach_even (info_at K L info₂ f) old like refl i same)),
      )

-- ---- a single frame

pub batch_one : (s : Params) (l : Interleavers) (w : List ℕ) (L : ℕ) (info : List ℕ) → length info ≡ info_length s L
    → batch_redundancy s l w L 1 info ≡ redundancy s l w L info
unfolding batch_redundancy concat
batch_one s l w L info e =
    append-nil (redundancy s l w L (frame_at (info_length s L) info 0))
    ∙ ap (redundancy s l w L) (ap (λ (k : ℕ). take (info_length s L) (drop k info)) (zero-mul (info_length s L)) ∙ take_all (info_length s L) info (omega arith))

-- the encoder's call is the batch of one
pub batch_single : (m t M col L : ℕ) (self parity w info red : List ℕ) (work : ℕ)
    → batch_call m t M col L 1 self parity w info red work ≡ encode_call m t M col L self parity w info red work
unfolding batch_call batch_verdict batch_rule batch_lengths encode_call encode_verdict frame_lengths
batch_single m t M col L self parity w info red work =
    let s : Params = params m t M col in
    let l : Interleavers = interleavers s self parity in
    let lengths : ℕ → ℕ → Verdict = λ i o. length_rule 4 (length info) i then length_rule 5 (length red) o in
    let rest : Verdict = length_rule 6 work (kit_work s) then content_rules s l w info in
    let front : Verdict → Verdict = λ v. design_rules m t M col then count_rule L then kit_lengths s self parity w then v then rest in
    let left : List ℕ = batch_redundancy s l w L 1 info in
    ap (λ (v : Verdict). encoded_by (front v) red left) (ap₂ lengths (one-mul (info_length s L)) (one-mul (red_length s L)))
    ∙ made (front (lengths (info_length s L) (red_length s L)))
    (λ e. batch_one s l w L info
    (length_equal 4 (length info) (info_length s L)
    (then_first (length_rule 4 (length info) (info_length s L)) (length_rule 5 (length red) (red_length s L))
    (then_first (lengths (info_length s L) (red_length s L)) rest
    (then_rest (kit_lengths s self parity w) (lengths (info_length s L) (red_length s L) then rest)
    (then_rest (count_rule L) (kit_lengths s self parity w then lengths (info_length s L) (red_length s L) then rest)
    (then_rest (design_rules m t M col) (count_rule L then kit_lengths s self parity w then lengths (info_length s L) (red_length s L) then rest) e)))))))
  where
    made : (v : Verdict) {a b : List ℕ} → (v ≡ accepted → a ≡ b) → encoded_by v red a ≡ encoded_by v red b
    made accepted h = ap (λ (x : List ℕ). record { verdict = accepted; red = x }) (h refl)
    made (refused i p) h = refl

-- ---- all of them

pub batch-frames : (K : Kit) (L n : ℕ) (info red : List ℕ) (work : ℕ) → BatchFrames K L n info red work
batch-frames K L n info red work =
    record {
      alone = batch-alone K L n info red work;
      whole = batch-long K L n info red work;
      untouched = batch-refused K L n info red work;
      exactly = batch-accepted K L n info red;
      others = λ info₂ red₂ e e₂. batch-others K L n info red info₂ red₂ work e e₂;
      reach_odd = λ info₂ red₂ e e₂ f h i. (batch-reach K L n info red info₂ red₂ work e e₂ f h i).0;
      reach_even = λ info₂ red₂ e e₂ f h i. (batch-reach K L n info red info₂ red₂ work e e₂ f h i).1;
    }
