-- The request register and the clock (02, C-13). Held, the register stays as it is, whatever ends; held or released, it stays so through
-- cycles and edges; and whichever it is, the divider, the timers, their ends, T_OUT and the serial port move alike.
use mathlib.Core.Path.{◌≡◌, refl, ap, sym, ◌∙◌}
use mathlib.Core.Bool.{Bool, true, false}
use Prim.Native.Nat.{ℕ, ◌+◌, ◌%◌, ◌<◌}
use lib.Dec.{eqb}
use Rattle.word.specs.Choose.{pick}
use Rattle.word.proofs.Computed.{by_test}
use Rattle.word.proofs.Iterate.{iter_keeps, iter_alike}
use Rattle.serial.specs.Port.{port_end}
use Rattle.serial.specs.declared.Mode.{Mode}
use Rattle.serial.specs.declared.Port.{Port}
use Rattle.timers.specs.Requests.{latch, latched_if}
use Rattle.timers.specs.Timer.{ticked}
use Rattle.timers.specs.Clock.{end_of, flips, asked_for, bit_clock, end0_of, tick_both, cycle, cycles, begun, at_divider, edge_of}
use Rattle.timers.specs.declared.Source.{Source}
use Rattle.timers.specs.declared.Source.TheVariants.{Divider, Edges}
use Rattle.timers.specs.declared.Setup.{Setup}
use Rattle.timers.specs.declared.Setting.{Setting}
use Rattle.timers.specs.declared.RequestRegister.{RequestRegister}
use Rattle.timers.specs.declared.Lines.{Lines}
use Rattle.timers.specs.declared.Moving.{Moving}
use Rattle.timers.specs.declared.Spanned.{Spanned}
use Rattle.timers.proofs.Latched.{latch_keeps_mark, held_latch}
use Rattle.timers.proofs.BitClock.{moves_no_timer}

-- a is r after some requests were asked for
pub record Holds (r a : RequestRegister) : Type 0 where
  pub mark_stays : a.released ≡ r.released
  pub held_stays : r.released ≡ false → a ≡ r

pub holds_itself : (r : RequestRegister) → Holds r r
holds_itself r = record { mark_stays = refl; held_stays = λ e. refl }

pub holds_on : {r a b : RequestRegister} → Holds r a → Holds a b → Holds r b
holds_on f g =
    record { mark_stays = g.mark_stays ∙ f.mark_stays; held_stays = λ e. g.held_stays (f.mark_stays ∙ e) ∙ f.held_stays e }

latch_holds : (n : ℕ) (r : RequestRegister) → Holds r (latch n r)
latch_holds n r = record { mark_stays = latch_keeps_mark n r; held_stays = held_latch n r }

pub if_holds : (asked : Bool) (n : ℕ) (r : RequestRegister) → Holds r (latched_if asked n r)
unfolding latched_if
if_holds true n r = latch_holds n r
if_holds false n r = holds_itself r

-- what an end asks for
end_holds : (s : Setup) (l : Lines) → Holds l.requests (end_of s l).requests
unfolding end_of
end_holds s l = latch_holds s.request l.requests

end0_holds : (m : Mode) (s : Setup) (l : Lines) → Holds l.requests (end0_of m s l).requests
unfolding end0_of bit_clock asked_for
end0_holds m s l =
    let x = port_end m l.port in
    by_test (λ (k : Lines). Holds l.requests k.requests) m.on
    (λ t. holds_on (if_holds x.asked4 4 l.requests) (if_holds x.asked3 3 (latched_if x.asked4 4 l.requests)))
    (λ t. end_holds s l)

module _ (s : Setting) where
  abbrev Held : RequestRegister → Spanned → Type 0
  Held r x = Holds r x.moving.lines.requests

  both_hold : (r : RequestRegister) (by : Source) (x : Spanned) → Held r x → Held r (tick_both by s x)
  unfolding tick_both
  both_hold r by x h =
      iter_keeps (end_of s.t1) L (λ l k. holds_on k (end_holds s.t1 l)) (ticked by s.t1 x.moving.t1).ends _
      (iter_keeps (end0_of s.port s.t0) L (λ l k. holds_on k (end0_holds s.port s.t0 l)) (ticked by s.t0 x.moving.t0).ends x.moving.lines h)
    where
      L : Lines → Type 0
      L l = Holds r l.requests

  cycle_holds : (r : RequestRegister) (x : Spanned) → Held r x → Held r (cycle s x)
  unfolding cycle
  cycle_holds r x h =
      let d = (x.moving.divider + 1) % 4 in
      by_test (Held r) (eqb d 0) (λ t. both_hold r Divider (at_divider x d) h) (λ t. h)

  pub cycles_hold : (n : ℕ) (m : Moving) → Holds m.lines.requests (cycles s n m).moving.lines.requests
  unfolding cycles
  cycles_hold n m =
      let r = m.lines.requests in
      iter_keeps (cycle s) (Held r) (cycle_holds r) n (begun m) (holds_itself r)

  pub edge_holds : (m : Moving) → Holds m.lines.requests (edge_of s m).moving.lines.requests
  unfolding edge_of
  edge_holds m = both_hold m.lines.requests Edges (begun m) (holds_itself m.lines.requests)

-- ---- what moves alike, whatever is requested
pub record Alike (l k : Lines) : Type 0 where
  pub tout_alike : k.tout ≡ l.tout
  pub port_alike : k.port ≡ l.port

end_alike : (s : Setup) (l k : Lines) → Alike l k → Alike (end_of s l) (end_of s k)
unfolding end_of
end_alike s l k a = record { tout_alike = ap (flips s.drives) a.tout_alike; port_alike = a.port_alike }

end0_alike : (m : Mode) (s : Setup) (l k : Lines) → Alike l k → Alike (end0_of m s l) (end0_of m s k)
unfolding end0_of bit_clock end_of
end0_alike m s l k a = go m.on
  where
    go : (on : Bool) → Alike (pick on (bit_clock m s l) (end_of s l)) (pick on (bit_clock m s k) (end_of s k))
    go true =
        record { tout_alike = ap (flips s.drives) a.tout_alike; port_alike = ap (λ (p : Port). (port_end m p).port) a.port_alike }
    go false = end_alike s l k a

-- n cycles with another request register: the same divider, counts and ends, and T_OUT and the port alike
pub record CyclesAlike (x y : Spanned) : Type 0 where
  pub divider_same : y.moving.divider ≡ x.moving.divider
  pub t0_same : y.moving.t0 ≡ x.moving.t0
  pub t1_same : y.moving.t1 ≡ x.moving.t1
  pub ends0_same : y.ends0 ≡ x.ends0
  pub ends1_same : y.ends1 ≡ x.ends1
  pub lines_alike : Alike x.moving.lines y.moving.lines

abbrev pub asking : Moving → RequestRegister → Moving
asking m r =
    record { divider = m.divider; t0 = m.t0; t1 = m.t1; lines = record { requests = r; tout = m.lines.tout; port = m.lines.port } }

pub requests_move_nothing : (s : Setting) (n : ℕ) (m : Moving) → m.divider < 4 → (r : RequestRegister) → CyclesAlike (cycles s n m) (cycles s n (asking m r))
requests_move_nothing s n m d r =
    let after = cycles s n m in
    let own : after ≡ _ = moves_no_timer s n m d m.lines in
    let other : cycles s n (asking m r) ≡ _ = moves_no_timer s n m d (asking m r).lines in
    let first = iter_alike (end0_of s.port s.t0) Alike (end0_alike s.port s.t0) after.ends0 m.lines (asking m r).lines (record { tout_alike = refl; port_alike = refl }) in
    let both = iter_alike (end_of s.t1) Alike (end_alike s.t1) after.ends1 _ _ first in
    record {
      divider_same = ap (λ (x : Spanned). x.moving.divider) other;
      t0_same = ap (λ (x : Spanned). x.moving.t0) other;
      t1_same = ap (λ (x : Spanned). x.moving.t1) other;
      ends0_same = ap (λ (x : Spanned). x.ends0) other;
      ends1_same = ap (λ (x : Spanned). x.ends1) other;
      lines_alike =
          record {
            tout_alike = ap (λ (x : Spanned). x.moving.lines.tout) other ∙ both.tout_alike ∙ sym (ap (λ (x : Spanned). x.moving.lines.tout) own);
            port_alike = ap (λ (x : Spanned). x.moving.lines.port) other ∙ both.port_alike ∙ sym (ap (λ (x : Spanned). x.moving.lines.port) own);
          };
    }
