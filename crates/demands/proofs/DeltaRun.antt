-- The delta run over an audited segment's bytes: its deltas are the segment's, so its i-th value is what get answers.
use Prim.Native.Nat.{ℕ, zero, suc, ◌+◌, ◌-◌, ◌*◌, ◌/◌, ◌<◌}
use mathlib.Core.List.{List}
use mathlib.Core.Path.{◌≡◌, refl, sym, ap, ◌∙◌}
use native.Mathlib.Omega.{arith}
use native.Mathlib.Nat.{add-zero, mul-div_cancel}
use lib.ListN.{length, get_or, drop, length-drop}
use lib.Seq.{length-take-le, get_or-take, get_or-drop}
use Rattle.rules.specs.Words.{value}
use Rattle.rules.specs.Record.{Index, widths_of, start, base, width, edge, mark}
use Rattle.rules.specs.Push.{delta_at}
use Rattle.rules.specs.Reading.{get_rule, run_count_rule, run_value_rule}
use Rattle.rules.specs.Audit.{deltas}
use Rattle.laws.proofs.Tests.{taken}
use Rattle.laws.proofs.Bytes.{delta_room}
use Rattle.demands.specs.Terms.{bytes_of}
use Rattle.demands.proofs.WellFormed.{WellFormed, edge_at}
use Rattle.demands.proofs.Get.{get_at}

-- where b has from `to` on what a has from `at` on, the deltas there are the same
delta_moved : (a b : List ℕ) (at to w : ℕ) → ((i : ℕ) → i < w → get_or a (at + i) 0 ≡ get_or b (to + i) 0) → delta_at a at w ≡ delta_at b to w
unfolding delta_at
delta_moved a b at to zero s = refl
delta_moved a b at to (suc w) s =
    let head : get_or a at 0 ≡ get_or b to 0 = rw (add-zero at, add-zero to) at (s 0 (omega arith)) in
    let rest = delta_moved a b (suc at) (suc to) w
    (λ i h. let e : suc at + i ≡ at + suc i = omega arith in let f : suc to + i ≡ to + suc i = omega arith in rw (e, f) (s (suc i) (omega arith))) in
    rw (head, rest)

module _ (x : Index) (w : WellFormed x) (k : ℕ) (h : k < widths_of x) where
  -- a segment's bytes are its deltas times its width
  bytes_length : length (bytes_of x k) ≡ deltas x k * width x k
  bytes_length =
      let c = w.counts in
      let o = w.whole k h in
      let ends = o.ends in
      let inside = o.inside in
      length-take-le (mark x (k + 1) - mark x k) (drop (mark x k) x.bytes) (let e = length-drop (mark x k) x.bytes in omega arith) ∙ omega arith

  -- the run's count is the number of deltas
  count : length (bytes_of x k) / width x k ≡ deltas x k
  count = let c = w.counts in let least = (w.whole k h).least in rw bytes_length (mul-div_cancel (deltas x k) (omega arith))

  -- a delta of the run is the segment's
  delta_part : (i : ℕ) → i < deltas x k → delta_at (bytes_of x k) (i * width x k) (width x k) ≡ delta_at x.bytes (mark x k + i * width x k) (width x k)
  delta_part i l =
      let r = delta_room (deltas x k) (width x k) i l in
      let ends = (w.whole k h).ends in
      delta_moved (bytes_of x k) x.bytes (i * width x k) (mark x k + i * width x k) (width x k)
      (λ j g.
      let e : mark x k + (i * width x k + j) ≡ mark x k + i * width x k + j = omega arith in
      get_or-take (mark x (k + 1) - mark x k) (drop (mark x k) x.bytes) (i * width x k + j) 0 (omega arith)
      ∙ get_or-drop (mark x k) x.bytes (i * width x k + j) 0 ∙ ap (λ (p : ℕ). get_or x.bytes p 0) e)

  -- a delta run's count
  pub run_count : run_count_rule (bytes_of x k) (width x k) ≡ value (deltas x k)
  unfolding run_count_rule
  run_count = let c = w.counts in let o = w.whole k h in let least = o.least in let most = o.most in taken _ _ _ (omega arith) ∙ ap value count

  -- a delta run's i-th value is get
  pub run_value : (i : ℕ) → i < deltas x k → run_value_rule (bytes_of x k) (base x k) (width x k) i ≡ get_rule x (start x k + 1 + i)
  unfolding run_value_rule
  run_value i l =
      let c = w.counts in
      let o = w.whole k h in
      let least = o.least in
      let most = o.most in
      let d = delta_part i l in
      let e : edge x k + suc i ≡ start x k + 1 + i = let q = edge_at x k (omega arith) in omega arith in
      rw d
      (taken _ _ _ (omega arith) ∙ taken _ _ _ (rw count l, tt) ∙ taken _ _ _ (o.fits i l, tt)
      ∙ sym (get_at x w k (suc i) (omega arith) (omega arith)) ∙ ap (get_rule x) e)
