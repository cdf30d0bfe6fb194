-- What an index holds at a position, and what it means that it holds one value more.
use Prim.Native.Nat.{ℕ, zero, suc, ◌+◌, ◌-◌, ◌*◌, ◌≤◌, ◌<◌}
use mathlib.Core.List.{List}
use mathlib.Core.Path.{◌≡◌}
use native.Mathlib.Omega.{arith}
use lib.ListN.{get_or}
use Rattle.rules.specs.Record.{Index, length_of, segments_of, used_of, base, width, edge, mark}
use Rattle.rules.specs.Push.{delta_at}
use Rattle.laws.proofs.Bytes.{delta_same, delta_room}
use Rattle.demands.proofs.WellFormed.{Whole, WellFormed}

-- value number i of a segment: its base, then its base + delta
abbrev pub item : List ℕ → ℕ → ℕ → ℕ → ℕ → ℕ
item bytes b at w zero = b
item bytes b at w (suc i) = b + delta_at bytes (at + i * w) w

-- value number i of segment s of an index
abbrev pub item_of : Index → ℕ → ℕ → ℕ
item_of x s i = item x.bytes (base x s) (mark x s) (width x s) i

-- no value of a segment is below its base
pub item_least : (bytes : List ℕ) (b at w i : ℕ) → b ≤ item bytes b at w i
item_least bytes b at w zero = omega arith
item_least bytes b at w (suc i) = omega arith

-- the index holds v at position p: as value number nth of segment seg
pub record Holds (x : Index) (p v : ℕ) : Type 0 where
  pub seg : ℕ
  pub nth : ℕ
  pub inside : seg < segments_of x
  pub here : edge x seg + nth ≡ p
  pub before : p < edge x (seg + 1)
  pub is : item_of x seg nth ≡ v

-- the used data bytes are bytes
abbrev pub Bytes : Index → Type 0
Bytes x = (i : ℕ) → i < used_of x → get_or x.bytes i 0 < 256

-- y is x with the value v behind the others
pub record OneMore (x y : Index) (v : ℕ) : Type 0 where
  pub well : WellFormed y
  pub longer : length_of y ≡ length_of x + 1
  pub bytes : Bytes x → Bytes y
  pub old : (p u : ℕ) → Holds x p u → Holds y p u
  pub new : Holds y (length_of x) v

-- a segment that stays where it is, in an index that used more bytes
pub whole_kept : {m u u' b b' w w' f f' t t' a a' e e' : ℕ} {bs bs' : List ℕ} → Whole m u bs b w f t a e
    → b' ≡ b → w' ≡ w → f' ≡ f → t' ≡ t → a' ≡ a → e' ≡ e → u ≤ u' → ((i : ℕ) → i < u → get_or bs' i 0 ≡ get_or bs i 0)
    → Whole m u' bs' b' w' f' t' a' e'
whole_kept {u = u} {b = b} {w = w} {f = f} {t = t} {a = a} {e = e} {bs = bs} {bs' = bs'} h eb ew ef et ea ee l s =
    rw (eb, ew, ef, et, ea, ee)
    (record {
      least = h.least;
      most = h.most;
      some = h.some;
      ends = h.ends;
      inside = let g = h.inside in omega arith;
      fits = λ i k.
          let r = delta_room (t - f - 1) w i k in
          let g = h.inside in
          let q = h.ends in
          rw (delta_same bs' bs u (a + i * w) w s (omega arith)) (h.fits i k);
    })
