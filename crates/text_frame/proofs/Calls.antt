-- What the reading calls answer and leave, as the code returns it: the text goes wrong, a length is refused, or all is written.
--   length_due                              a length that passed is the one that is due
--   blocks-refused, blocks-length, blocks-filled   the three cases of block text; blocks-few, blocks-pass for its lines
--   frame_refused, frame-length, frame-filled      those of frame text; frame-few .. frame-room for its lines
-- Assumes nothing.
use Rattle.std.specs.Prelude.{Err, Ok, Result}
use Prim.Native.Nat.{ℕ, ◌+◌, ◌*◌, ◌≤◌}
use mathlib.Core.Path.{◌≡◌, sym, ap, subst, ◌∙◌}
use mathlib.Core.List.{List}
use native.Mathlib.Omega.{arith}
use lib.ListN.{length, take, drop}
use lib.Seq.{take_at, drop_at}
use Rattle.text_formats.specs.Format as format
use Rattle.text_formats.specs.Format.{Scan, read, scan}
use Rattle.text_formats.specs.Items.{verdict, bits_lines, past, walk, Passes}
use Rattle.staircase.specs.Design.{params, most-blocks}
use Rattle.staircase.specs.Frame.{groups}
use Rattle.staircase.specs.Rules.{Verdict, ◌then◌, length_rule, frame_lengths}
use Rattle.staircase.specs.Rules.Verdict.{accepted}
use Rattle.answers.specs.declared.Refusal.{Refusal}
use Rattle.answers.specs.Answers.{refusal_verdict, verdict_of}
use Rattle.answers.proofs.Checks.{check_refused, check_passed}
use Rattle.staircase.proofs.Rules.{length_equal, frame-lengths}
use Rattle.text.specs.Rules.{scan_rule, mark, values_of, kept}
use Rattle.text.proofs.Kept.{kept_old}
use Rattle.text.specs.FrameText.{block_format, frame_format, group_lines}
use Rattle.text_frame_scan.specs.Judged.{found_scan}
use Rattle.text_frame.specs.Answers.{blocks_verdict, CountIs}
use Rattle.text.specs.FrameReader.{block_scan, block_rule, block_count, block_info, read_blocks_call, frame_scan, frame_rule, frame_count, frame_info, frame_red, read_frame_call}
use Rattle.answers.specs.declared.TextError.{TextError}
use Rattle.answers.specs.declared.TextError.TheVariants.{Refused}
use Rattle.text_items.specs.declared.Broken.{Broken}
use Rattle.text_frame.proofs.Answering.{found_wrong, found_count, blocks_found, blocks-told, frame_found, frame-told}
use Rattle.text.proofs.FrameParts.{BlockParts, block_parts, FrameParts, frame_parts}

-- ---- the rule of a scan, and then another

-- the answer a of a call with the verdict v, for a text whose scan is x
abbrev Answers : Result ℕ TextError → Verdict → Scan → Type 0
Answers a v x = (blocks_verdict a ≡ v) × CountIs a (mark x)

module _ (x : Scan) (u : Verdict) where
  broken : (q : ℕ) (a : Result ℕ TextError) → x ≡ format.refused q → (blocks_verdict a ≡ scan_rule 12 x) × CountIs a (mark x)
      → Answers a (scan_rule 12 x then u) x × ((new old : List ℕ) → kept (scan_rule 12 x then u) new old ≡ old)
  unfolding scan_rule kept
  broken q a e (v, n) =
      let d : (scan_rule 12 x then u) ≡ scan_rule 12 x = rw e in
      ((v ∙ sym d, n), λ new old. ap (λ (w : Verdict). kept w new old) (d ∙ ap (scan_rule 12) e))

  module _ (n : ℕ) (vs : List ℕ) (e : x ≡ read n vs) (c : Result Unit Refusal) (g : verdict_of c ≡ u) where
    due : (scan_rule 12 x then u) ≡ u
    unfolding scan_rule
    due = rw e

    refused-length : (r : Refusal) → c ≡ Err r → (a : Result ℕ TextError) → a ≡ Err (Refused r)
        → Answers a (scan_rule 12 x then u) x × ((new old : List ℕ) → kept (scan_rule 12 x then u) new old ≡ old)
    unfolding blocks_verdict CountIs verdict_of
    refused-length r f a h =
        let d : (scan_rule 12 x then u) ≡ refusal_verdict r = due ∙ sym g ∙ ap verdict_of f in
        rw h ((sym d, tt), λ new old. kept_old (scan_rule 12 x then u) new old (λ z. check_refused f (ap verdict_of f ∙ sym d ∙ z)))

    read_whole : c ≡ (Ok tt) → Answers (Ok n) (scan_rule 12 x then u) x × ((new old : List ℕ) → kept (scan_rule 12 x then u) new old ≡ new)
    unfolding blocks_verdict CountIs mark kept
    read_whole f =
        let d : (scan_rule 12 x then u) ≡ accepted = due ∙ sym g ∙ check_passed f in
        ((sym d, sym (ap mark e)), λ new old. ap (λ (v : Verdict). kept v new old) d)

-- a length that passed is the one that is due
pub length_due : (p have want : ℕ) (c : Result Unit Refusal) → verdict_of c ≡ length_rule p have want → c ≡ (Ok tt) → have ≡ want
length_due p have want c h k = length_equal p have want (sym h ∙ check_passed k)

-- ---- block text

-- the answer of the call, and what it leaves
abbrev pub BlocksDone : ℕ → List ℕ → List ℕ → Result ℕ TextError → List ℕ → Type 0
BlocksDone M s info a out = (blocks_verdict a ≡ (read_blocks_call M s info).verdict) × (CountIs a (block_count M s) × (out ≡ (read_blocks_call M s info).info))

module _ (M area : ℕ) (s : List ℕ) (f : Result ℕ Broken) (ea : area ≡ M * M) (e : found_scan f ≡ verdict (scan (block_format area most-blocks) s)) where
  pub blocks-refused : (info : List ℕ) (q : Broken) (a : Result ℕ TextError) → f ≡ Err q → (blocks_verdict a ≡ scan_rule 12 (found_scan f)) × CountIs a (mark (found_scan f))
      → BlocksDone M s info a info
  unfolding read_blocks_call block_rule block_count
  blocks-refused info q a g t =
      let x : Scan = block_scan M s in
      let u : Verdict = length_rule 4 (length info) (mark x * (M * M)) in
      let ((v, n), k) = broken x u q.place a (found_wrong x f (blocks_found M area s f ea e) q g) (blocks-told M area s f ea e a t) in
      (v, (n, sym (k (block_info M s) info)))

  module _ (n : ℕ) (g : f ≡ Ok n) where
    abbrev x : Scan
    x = block_scan M s

    is : x ≡ read n (values_of x)
    is = found_count x f (blocks_found M area s f ea e) n g

    text : BlockParts area n (values_of x) s
    unfolding block_scan
    text = block_parts area n (values_of x) s (ap (λ (a : ℕ). scan (block_format a most-blocks) s) ea ∙ is)

    pub blocks-few : n ≤ most-blocks
    blocks-few = text.few

    pub blocks-pass : Passes (walk (bits_lines area 1 n) s 11)
    blocks-pass = subst Passes (sym text.lines) tt

    module _ (info : List ℕ) (c : Result Unit Refusal) (h : verdict_of c ≡ length_rule 4 (length info) (n * area)) where
      due_length : verdict_of c ≡ length_rule 4 (length info) (mark x * (M * M))
      unfolding mark
      due_length =
          h ∙ ap (λ (a : ℕ). length_rule 4 (length info) (n * a)) ea ∙ ap (λ (k : ℕ). length_rule 4 (length info) (k * (M * M))) (sym (ap mark is))

      pub blocks-length : (r : Refusal) → c ≡ Err r → (a : Result ℕ TextError) → a ≡ Err (Refused r) → BlocksDone M s info a info
      unfolding read_blocks_call block_rule block_count
      blocks-length r k answer h =
          let ((a, b), l) = refused-length x (length_rule 4 (length info) (mark x * (M * M))) n (values_of x) is c due_length r k answer h in
          (a, (b, sym (l (block_info M s) info)))

      pub blocks-filled : (out : List ℕ) (q : ℕ) → c ≡ (Ok tt) → past out q ≡ walk (bits_lines area 1 n) s 11 → BlocksDone M s info (Ok n) out
      unfolding read_blocks_call block_rule block_count block_info
      blocks-filled out q k w =
          let ((a, b), l) = read_whole x (length_rule 4 (length info) (mark x * (M * M))) n (values_of x) is c due_length k in
          let o : past out q ≡ past (values_of x) text.last = w ∙ text.lines in
          let z : out ≡ values_of x = cc in
          (a, (b, z ∙ sym (l (values_of x) info)))

-- ---- frame text

-- the answer of the call, and what it leaves in both buffers
abbrev pub FrameDone : ℕ → ℕ → List ℕ → List ℕ → List ℕ → Result ℕ TextError → List ℕ → List ℕ → Type 0
FrameDone M r s info red a i o =
    (blocks_verdict a ≡ (read_frame_call M r s info red).verdict)
    × (CountIs a (frame_count M r s) × ((i ≡ (read_frame_call M r s info red).info) × (o ≡ (read_frame_call M r s info red).red)))

module _ (m t M area order : ℕ) (s : List ℕ) (f : Result ℕ Broken) (ea : area ≡ M * M) (eo : order ≡ M * (m * t))
    (e : found_scan f ≡ verdict (scan (frame_format area order most-blocks) s)) where
  abbrev r : ℕ
  r = m * t

  abbrev y : Scan
  y = frame_scan M (m * t) s

  abbrev due_both : List ℕ → List ℕ → ℕ → Verdict
  due_both info red L = length_rule 4 (length info) (L * (M * M)) then length_rule 5 (length red) (groups L * (2 * (M * (m * t))))

  pub frame_refused : (info red : List ℕ) (q : Broken) (a : Result ℕ TextError) → f ≡ Err q → (blocks_verdict a ≡ scan_rule 12 (found_scan f)) × CountIs a (mark (found_scan f))
      → FrameDone M (m * t) s info red a info red
  unfolding read_frame_call frame_rule frame_count
  frame_refused info red q a g v =
      let ((w, n), k) =
      broken y (due_both info red (mark y)) q.place a (found_wrong y f (frame_found M r area order s f ea eo e) q g) (frame-told M r area order s f ea eo e a v)
      in
      (w, (n, (sym (k (frame_info M r s) info), sym (k (frame_red M r s) red))))

  module _ (n : ℕ) (g : f ≡ Ok n) where
    frame_is : y ≡ read n (values_of y)
    frame_is = found_count y f (frame_found M r area order s f ea eo e) n g

    frame-text : FrameParts area order n (values_of y) s
    unfolding frame_scan
    frame-text =
        frame_parts area order n (values_of y) s
        (ap (λ (a : ℕ). scan (frame_format a order most-blocks) s) ea ∙ ap (λ (o : ℕ). scan (frame_format (M * M) o most-blocks) s) eo ∙ frame_is)

    pub frame-few : n ≤ most-blocks
    frame-few = frame-text.few

    pub frame-pass : Passes (walk (bits_lines area 1 n) s 11)
    frame-pass = subst Passes (sym frame-text.block-lines) tt

    module _ (out : List ℕ) (q : ℕ) (w : past out q ≡ walk (bits_lines area 1 n) s 11) where
      blocks_out : (out ≡ frame-text.info) × (q ≡ frame-text.middle)
      blocks_out =
          let o : past out q ≡ past frame-text.info frame-text.middle = w ∙ frame-text.block-lines in
          (cc, cc)

      pub groups-room : q + 18 ≤ length s
      groups-room = let z = blocks_out.1 in omega (arith, frame-text.room)

      groups-walk : walk (group_lines order 1 (groups n)) s (q + 18) ≡ past frame-text.red frame-text.last
      groups-walk = ap (λ (k : ℕ). walk (group_lines order 1 (groups n)) s (k + 18)) blocks_out.1 ∙ frame-text.group_lines_lem

      pub groups-pass : (G : ℕ) → G ≡ groups n → Passes (walk (group_lines order 1 G) s (q + 18))
      groups-pass G e = subst Passes (sym (ap (λ (k : ℕ). walk (group_lines order 1 k) s (q + 18)) e ∙ groups-walk)) tt

    module _ (col : ℕ) (info red : List ℕ) (c : Result Unit Refusal) (h : verdict_of c ≡ frame_lengths (params m t M col) n info red) where
      pub frame-room : c ≡ (Ok tt) → (length info ≡ n * area) × (length red ≡ groups n * (2 * order))
      frame-room k =
          let (a, b) = frame-lengths (params m t M col) n info red (sym h ∙ check_passed k) in
          (a ∙ ap (λ (z : ℕ). n * z) (sym ea), b ∙ ap (λ (z : ℕ). groups n * (2 * z)) (sym eo))

      due_lengths : verdict_of c ≡ due_both info red (mark y)
      unfolding mark frame_lengths
      due_lengths = h ∙ ap (due_both info red) (sym (ap mark frame_is))

      pub frame-length : (v : Refusal) → c ≡ Err v → (a : Result ℕ TextError) → a ≡ Err (Refused v) → FrameDone M (m * t) s info red a info red
      unfolding read_frame_call frame_rule frame_count
      frame-length v k answer j =
          let ((a, b), l) = refused-length y (due_both info red (mark y)) n (values_of y) frame_is c due_lengths v k answer j in
          (a, (b, (sym (l (frame_info M r s) info), sym (l (frame_red M r s) red))))

      -- the values of the scan are the information and, behind it, the redundancy
      cut : frame_count M (m * t) s * (M * M) ≡ length frame-text.info
      unfolding frame_count mark
      cut = ap (λ (k : ℕ). k * (M * M)) (ap mark frame_is) ∙ ap (λ (a : ℕ). n * a) (sym ea) ∙ sym frame-text.info-size

      info-read : frame_info M (m * t) s ≡ frame-text.info
      unfolding frame_info
      info-read =
          ap (λ (l : List ℕ). take (frame_count M (m * t) s * (M * M)) l) frame-text.whole
          ∙ take_at frame-text.info frame-text.red (frame_count M (m * t) s * (M * M)) (sym cut)

      red-read : frame_red M (m * t) s ≡ frame-text.red
      unfolding frame_red
      red-read =
          ap (λ (l : List ℕ). drop (frame_count M (m * t) s * (M * M)) l) frame-text.whole
          ∙ drop_at frame-text.info frame-text.red (frame_count M (m * t) s * (M * M)) (sym cut)

      pub frame-filled : (i o : List ℕ) (q j G : ℕ) → c ≡ (Ok tt) → past i q ≡ walk (bits_lines area 1 n) s 11 → G ≡ groups n
          → past o j ≡ walk (group_lines order 1 G) s (q + 18) → FrameDone M (m * t) s info red (Ok n) i o
      unfolding read_frame_call frame_rule frame_count
      frame-filled i o q j G k w eg v =
          let ((a, b), l) = read_whole y (due_both info red (mark y)) n (values_of y) frame_is c due_lengths k in
          let z : past o j ≡ past frame-text.red frame-text.last =
          v ∙ ap (λ (a : ℕ). walk (group_lines order 1 a) s (q + 18)) eg ∙ groups-walk i q w in
          let p : o ≡ frame-text.red = cc in
          (a, (b, ((blocks_out i q w).0 ∙ sym (l (frame_info M r s) info ∙ info-read), p ∙ sym (l (frame_red M r s) red ∙ red-read))))
