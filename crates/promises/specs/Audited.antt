-- Document 01, "The audit": which letter and which segment it answers, exactly when.
use Rattle.std.specs.Prelude.{ℕ, ◌<◌, List, [], ◌∷◌, ◌↔◌, ◌⊎◌, ◌≡◌}
use Rattle.rules.specs.Words.{Facts}
use Rattle.rules.specs.Record.{Index, segments_of}
use Rattle.rules.specs.Audit.{Letter, A, Verdict, well_formed, flaw, Rule, rules_of}
use Rattle.promises.specs.Table.{CountsRule}

-- every rule of a list holds
abbrev pub AllHold : List Rule → Type 0
AllHold [] = Unit
AllHold (r ∷ rs) = Facts r.tests × AllHold rs

-- the first rule of a list that fails has letter l
abbrev pub FirstFails : List Rule → Letter → Type 0
FirstFails [] l = ⊥
FirstFails (r ∷ rs) l = ((Facts r.tests → ⊥) × (l ≡ r.letter)) ⊎ (Facts r.tests × FirstFails rs l)

-- the counts rule holds, and rules B to F of every segment
abbrev pub Passes : Index → Type 0
Passes x = CountsRule x × ((k : ℕ) → k < segments_of x → AllHold (rules_of x k))

-- counts (A) come first with segment 0; then segments in order, rules B to F within each
abbrev pub Fails : Index → Letter → ℕ → Type 0
Fails x l k =
    ((CountsRule x → ⊥) × (l ≡ A) × (k ≡ 0))
    ⊎ (CountsRule x × (k < segments_of x) × ((j : ℕ) → j < k → AllHold (rules_of x j)) × FirstFails (rules_of x k) l)

-- a verdict keeps to the rules: well formed exactly when all hold, otherwise the first that fails, with its segment
pub record AuditExactly (x : Index) (verdict : Verdict) : Type 0 where
  pub passes : (verdict ≡ well_formed) ↔ Passes x
  pub fails : (l : Letter) (k : ℕ) → (verdict ≡ flaw l k) ↔ Fails x l k
