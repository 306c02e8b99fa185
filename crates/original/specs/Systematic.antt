-- Words that are encoded one after the other, each by the parity of its own information. Any list of such words over sites will do.
--   put, put_all               a bit written at a site, and bits at some sites
--   Systematic, whole         a word in two parts, its information and its parity; the two joined
--   encode_word, encode_each    the parity of a word from its information, and of words one after the other
-- Assumes nothing.
use Rattle.std.specs.Prelude.{List, [], ◌∷◌, ◌++◌, ℕ, set}
use Rattle.bch.specs.Code.{parity}
use Rattle.staircase.specs.Design.{Params}
use Rattle.staircase.specs.Frame.{Frame, Site, Word, word, read}
use Rattle.staircase.specs.Frame.Site.{unsent, in_info, in_red}

abbrev pub put : Site → ℕ → Frame → Frame
put unsent b f = f
put (in_info k) b f = record { info = set f.info k b; red = f.red }
put (in_red k) b f = record { info = f.info; red = set f.red k b }

unfoldable pub put_all : List Site → List ℕ → Frame → Frame
put_all [] bs f = f
put_all (x ∷ c) [] f = f
put_all (x ∷ c) (b ∷ bs) f = put x b (put_all c bs f)

-- a code, the sites of the information and those of the parity after it
pub record Systematic : Type 0 where
  pub code : Params
  pub info : List Site
  pub end : List Site

abbrev pub whole : Systematic → Word
whole w = word w.code (w.info ++ w.end)

unfoldable pub encode_word : Frame → Systematic → Frame
encode_word f w = put_all w.end (parity w.code.g w.code.r (read f w.info)) f

unfoldable pub encode_each : Frame → List Systematic → Frame
encode_each f [] = f
encode_each f (w ∷ ws) = encode_each (encode_word f w) ws
