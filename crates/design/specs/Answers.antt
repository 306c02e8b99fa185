-- Document 01, "a definition gives this paper's number and values for each of its cases": what the answer of a new design says.
--   DesignIs                         a design that was made has the four numbers that it was made from
--   Allowed, AllowedOriginal         a design keeps to the limits of its kind: what rules 1 to 3 leave, and rules 1, 2 and 19
--   DesignAllowed, DesignOriginal    a design that was made is allowed
-- Assumes nothing.
use Rattle.std.specs.Prelude.{◌≡◌, ℕ, Result, Ok, Err}
use Rattle.staircase.specs.Design.{Limits}
use Rattle.original.specs.Rules.{Original}
use Rattle.answers.specs.declared.Refusal.{Refusal}
use Rattle.design.specs.declared.Design.{Design}

unfoldable pub DesignIs : Result Design Refusal → ℕ → ℕ → ℕ → ℕ → Type 0
DesignIs (Ok d) m t M col = (d.m ≡ m) × (d.t ≡ t) × (d.size ≡ M) × (d.col ≡ col)
DesignIs (Err r) m t M col = Unit

abbrev pub Allowed : Design → Type 0
Allowed d = Limits d.m d.t d.size d.col

unfoldable pub DesignAllowed : Result Design Refusal → Type 0
DesignAllowed (Ok d) = Allowed d
DesignAllowed (Err r) = Unit

abbrev pub AllowedOriginal : Design → Type 0
AllowedOriginal d = Original d.m d.t d.size d.col

unfoldable pub DesignOriginal : Result Design Refusal → Type 0
DesignOriginal (Ok d) = AllowedOriginal d
DesignOriginal (Err r) = Unit
