-- A walk on any index and tables: its steps are get at next, next + 1 and so on, so it gives what reads gives, and back.
use Prim.Native.Nat.{ℕ, zero, suc, ◌+◌, ◌-◌, ◌≤◌, ◌<◌}
use mathlib.Core.List.{List, [], ◌∷◌, ◌++◌}
use mathlib.Core.Path.{◌≡◌, refl, sym, ap, ◌∙◌, subst}
use native.Mathlib.Omega.{arith}
use native.Mathlib.Numerals.{add-one}
use lib.ListN.{length, drop}
use borrow.Author.Tests.{le-leb, lt-leb}
use Rattle.rules.specs.declared.Cursor.{Cursor}
use Rattle.rules.specs.Words.{Answer, value, refused}
use Rattle.rules.specs.Record.{Index}
use Rattle.rules.specs.Reading.{get_rule, reads, ranged, range_rule, cursor, iter_rule, done, gave, moved, step_rule}
use Rattle.laws.proofs.Answers.{before_value}
use Rattle.demands.specs.Terms.{Walks}
use Rattle.demands.proofs.Compare.{by_less}
use Rattle.demands.proofs.Ranges.{range_within, iter_opens, range_reads}

-- a step that reads is not done
moved_done {ℓ} : {P : Type ℓ} (c : Cursor) (a : Answer ℕ) → moved c a ≡ done → P
moved_done c (value v) e = let z : ◌≡◌ {A = ℕ} 0 1 = cc in absurd (omega arith)
moved_done c (refused n) e = let z : ◌≡◌ {A = ℕ} 0 1 = cc in absurd (omega arith)

-- a step that gives a value read it, and moved by one
moved_gave : (c : Cursor) (a : Answer ℕ) (v : ℕ) (next : Cursor) → moved c a ≡ gave v next → (a ≡ value v) × (next ≡ cursor (c.next + 1) c.end)
moved_gave c (value u) v next e = (cc, cc)
moved_gave c (refused n) v next e = let z : ◌≡◌ {A = ℕ} 0 1 = cc in absurd (omega arith)

module _ (x : Index) where
  -- a step at or past end is done
  step_end : (a b : ℕ) → b ≤ a → step_rule x (cursor a b) ≡ done
  unfolding step_rule
  step_end a b h = rw (le-leb b a h)

  -- a step before end is as get
  step_reads : (a b : ℕ) → a < b → step_rule x (cursor a b) ≡ moved (cursor a b) (get_rule x a)
  unfolding step_rule
  step_reads a b h = rw (lt-leb b a h)

  -- a walk gives what reads gives, one value for each position
  pub walk_reads : (vs : List ℕ) (a b : ℕ) → Walks x (cursor a b) vs → (reads x a (b - a) ≡ value vs) × (length vs ≡ b - a)
  unfolding reads
  walk_reads [] a b s =
      by_less a b
      (λ l. moved_done (cursor a b) (get_rule x a) (sym (step_reads a b l) ∙ s))
      (λ l. let z : b - a ≡ 0 = omega arith in rw z (refl, refl))
  walk_reads (v ∷ vs) a b s =
      by_less a b
      (λ l.
      let g = moved_gave (cursor a b) (get_rule x a) v s.0 (sym (step_reads a b l) ∙ s.1) in
      let r = walk_reads vs (suc a) b (rw (g.1, add-one a) at s.2) in
      let n = r.1 in
      let z : b - a ≡ suc (b - suc a) = omega arith in
      (rw (z, g.0, r.0), omega arith))
      (λ l. moved_done (cursor a b) (value v) (let e = step_end a b l in let f = s.1 in cc))

  -- and where reads gives values, a walk gives them
  pub reads_walk : (n a b : ℕ) (vs : List ℕ) → b - a ≡ n → reads x a n ≡ value vs → Walks x (cursor a b) vs
  unfolding reads
  reads_walk zero a b vs q e = let f : [] ≡ vs = cc in subst (Walks x (cursor a b)) f (step_end a b (omega arith))
  reads_walk (suc n) a b vs q e =
      let f = before_value (get_rule x a) (reads x (suc a) n) vs e in
      let rest : Walks x (cursor (a + 1) b) f.1 = rw (add-one a) (reads_walk n (suc a) b f.1 (omega arith) f.3) in
      subst (Walks x (cursor a b)) f.4 (cursor (a + 1) b, step_reads a b (omega arith) ∙ ap (moved (cursor a b)) f.2, rest)

  -- a walk that opens gives what get_range writes
  pub walk_range : (a b : ℕ) (c : Cursor) (vs out : List ℕ) → iter_rule x a b ≡ value c → Walks x c vs → b - a ≤ length out
      → range_rule x a b out ≡ ranged (value (b - a)) (vs ++ drop (b - a) out)
  unfolding iter_rule
  walk_range a b c vs out e s o =
      let w = range_within x a b _ c e in
      let f = iter_opens x a b w in
      let same : c ≡ cursor a b = cc in
      let r = walk_reads vs a b (rw same at s) in
      range_reads x a b vs out w r.0 r.1 o
