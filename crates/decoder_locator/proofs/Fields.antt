-- What a ghost field keeps of the tables of a field, without the words ∥ ∥₁.
--   solution_of    a solution of the equation, whose third exponent the table of logarithms has
--   field_is       the tables are those of the field
-- Assumes nothing.
use mathlib.Core.Path.{◌≡◌, sym, ap, ◌∙◌}
use mathlib.Core.Logic.{∥∥₁_elim, ∥∥₁_prop}
use mathlib.Core.HLevel.{×_prop}
use mathlib.Core.List.{List}
use Prim.Native.Nat.{ℕ, ◌+◌, ◌*◌, ◌^◌, ◌≤◌}
use native.Mathlib.Nat.{ℕ_set}
use native.Mathlib.Bridge.{le_prop}
use lib.ListN.{get_or, take, drop}
use Rattle.std.specs.Coded.{Coded-set, coded_list, coded_ℕ}
use Rattle.bch.specs.Polynomial.{◌⊕◌}
use Rattle.bch.specs.Field.{field_poly, power}
use Rattle.bch.specs.Locator.{LogTable, Solution, SolutionTable}
use Rattle.bch.proofs.Field.{mul}
use Rattle.bch.proofs.Locator.{power_below, power-not-zero, power-add, log-power}
use Rattle.decoder_locator.specs.Steps.{Field}

-- the third exponent of a solution is one logarithm, so solutions need no choice
solution_of : {m : ℕ} → 4 ≤ m → m ≤ 10 → {logs : List ℕ} → LogTable m logs → (k v e : ℕ) → ∥ Solution m k v e ∥₁ → Solution m k v e
solution_of {m} low high {logs} L k v e S =
    let found = ∥∥₁_elim S (×_prop (ℕ_set (power m third) x) (ℕ_set (power m (e + third)) (power m v))) (λ s. known s) in
    (third, found.0, found.1)
  where
    x : ℕ
    x = power m (k * e) ⊕ 1

    third : ℕ
    third = get_or logs x 0

    known : Solution m k v e → (power m third ≡ x) × (power m (e + third) ≡ power m v)
    known (f, p, q) =
        let log = log-power m low high logs L (power m f) (power_below m low high f) (power-not-zero m low high f) in
        let same : power m third ≡ power m f = ap (λ (z : ℕ). power m (get_or logs z 0)) (sym p) ∙ log in (
          same ∙ p,
          power-add m low high e third ∙ ap (mul (field_poly m) m (power m e)) same ∙ sym (power-add m low high e f) ∙ q,
        )

module _ {m : ℕ} {field : List ℕ} (F : ∥ Field m field ∥₁) where
  low : 4 ≤ m
  low = ∥∥₁_elim F le_prop (λ F. F.m-low)

  high : m ≤ 10
  high = ∥∥₁_elim F le_prop (λ F. F.m-high)

  logs : LogTable m (take (2 ^ m) (drop (2 ^ m) field))
  logs = record {
    long = ∥∥₁_elim F (ℕ_set _ _) (λ F. F.tables.logs.long);
    below = λ x. ∥∥₁_elim F le_prop (λ F. F.tables.logs.below x);
    log = λ j l. ∥∥₁_elim F (ℕ_set _ _) (λ F. F.tables.logs.log j l);
  }

  solutions : (k : ℕ) (table : List ℕ) → (Field m field → SolutionTable m k table) → SolutionTable m k table
  solutions k table S = record {
    long = ∥∥₁_elim F (ℕ_set _ _) (λ F. (S F).long);
    below = λ v. ∥∥₁_elim F le_prop (λ F. (S F).below v);
    sound = λ v l d. solution_of low high logs k v _ (∥∥₁_elim F ∥∥₁_prop (λ F. ∣ (S F).sound v l d ∣₁));
    complete = λ v e l p b s z. ∥∥₁_elim F (λ x. absurd x) (λ F. (S F).complete v e l p b s z);
  }

  pub field_is : Field m field
  field_is = record {
    m-low = low;
    m-high = high;
    tables = record {
      long = ∥∥₁_elim F (ℕ_set _ _) (λ F. F.tables.long);
      powers = ∥∥₁_elim F (Coded-set (coded_list coded_ℕ) _ _) (λ F. F.tables.powers);
      logs = logs;
      halves = solutions 1 _ (λ F. F.tables.halves);
      cubics = solutions 2 _ (λ F. F.tables.cubics);
    };
  }
