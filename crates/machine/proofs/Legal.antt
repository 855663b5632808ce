-- A legal machine stays legal: each store, the stack, reset, cycles. And what registers and ports read is a byte.
use mathlib.Core.Path.{◌≡◌, ◌∙◌, refl, ap}
use mathlib.Core.Logic.{◌≢◌}
use mathlib.Core.Bool.{Bool, true, false, not, ◌&&◌, ◌||◌}
use mathlib.Core.List.{List, [], ◌∷◌}
use Prim.Native.Nat.{ℕ, zero, suc, ◌+◌, ◌-◌, ◌*◌, ◌%◌, ◌<◌}
use native.Mathlib.Omega.{arith}
use native.Mathlib.Decide.{ℕ_discrete}
use borrow.Author.Tests.{ltb-true, eqb-true, lt-ltb, eq-eqb, ne_eqb}
use lib.Dec.{T, eqb, ltb, lit<, lit≤, ltb→lt}
use lib.Bits.{bit_and, and_lt, or_lt}
use lib.ListN.{length, get_or, replicate}
use Rattle.word.specs.Choose.{pick}
use Rattle.word.specs.Fields.{upper, lower, high_byte, low_byte}
use Rattle.word.specs.Words.{plus}
use Rattle.word.proofs.Computed.{by_test, below, at, under, and_left, and_right}
use Rattle.timers.specs.Requests.{requests_fit}
use Rattle.timers.proofs.Latched.{fits_irq, zero_fits, released_fits}
use Rattle.timers.specs.Control.{ControlBytes, setting_of, kept}
use Rattle.timers.specs.Timer.{LegalCounting}
use Rattle.timers.specs.Clock.{cycles, written, LegalSetting, LegalMoving}
use Rattle.timers.specs.declared.Timer.{Timer}
use Rattle.timers.specs.declared.Moving.{Moving}
use Rattle.serial.specs.Port.{LegalPort}
use Rattle.serial.specs.declared.Port.{Port}
use Rattle.serial.proofs.Theorems.{idle_legal, waiting_legal, stored_legal}
use Rattle.timers.proofs.Legal.{setting_legal, written_legal, cycles_legal}
use Rattle.machine.specs.State.{held_in, placed_in, held, placed, with_pc, with_last3, with_released, with_port, with_transmitter}
use Rattle.machine.specs.Ports.{masked, port0_directions, port1_directions, port2_directions, port3_directions, directions_of, port_stores, port_reads, pins_of, of_port}
use Rattle.machine.specs.Clock.{control_with, control_of, moving_of, enabling, counts_at, moved_to, write_tmr, span_of, shown}
use Rattle.machine.specs.Serial.{port_mode, write_sio}
use Rattle.machine.proofs.Sio.{sio_either, sio_byte}
use Rattle.machine.proofs.Held.{irq_either}
use Rattle.machine.specs.Registers.{is_hole, is_write_only, port_directions, read_port, write_port, write_irq, read_reg, write_reg}
use Rattle.machine.specs.Addresses.{working_at, register_at, indexed_at, even_of, read_pair, write_pair}
use Rattle.machine.specs.Stack.{Stacked, spl, sp_of, sp_set, written_from, pushed_internal, pushed_external, pushed, stack_byte, raised, is_internal}
use Rattle.machine.specs.Start.{Place, placed_all, reset_places, reset_of, new_of, started_with, resting_port, default_of, made_of, is_kind, is_cost}
use Rattle.machine.specs.Legal.{may_hold, LegalFile, Legal}
use Rattle.machine.specs.Memory.{program_byte, data_start, data_byte, list_of}
use Rattle.machine.specs.declared.Machine.{Machine}
use Rattle.machine.specs.declared.Bytes as bytes
use Rattle.machine.specs.declared.Pins.{Pins}
use Rattle.std.specs.Prelude.{Result, Ok, Err, IfOk}
use Rattle.numbers.specs.declared.Refusal.{Refusal}
use Rattle.numbers.specs.declared.Refusal.TheVariants as refusal
use Rattle.machine.specs.declared.ports.Directions.{Directions}
use Rattle.machine.proofs.Places.{place_long, held_same, held_other, each_placed}
use Rattle.machine.proofs.Lens.{put_seen, span_is, every}

-- a file with a place that holds what it may
pub file_placed : {e : Bool} {l : List ℕ} (a v : ℕ) → LegalFile e l → a < 256 → v < 256 → T (may_hold e a v) → LegalFile e (placed_in l a v)
file_placed {e} {l} a v f h byte may =
    record {
      long = place_long l a v ∙ f.long;
      bytes = each_placed (λ b w. w < 256) l a v f.long h byte (λ b n. f.bytes b);
      places = each_placed (λ b w. T (may_hold e b w)) l a v f.long h may (λ b n. f.places b);
    }

-- whether IRQ is released is no matter of any other place
other_may : (e f : Bool) (a v : ℕ) → a ≢ 0xFA → T (may_hold e a v) → T (may_hold f a v)
unfolding may_hold
other_may e f a v n t =
    let out : eqb a 0xFA ≡ false = ne_eqb a 0xFA n in
    let same : may_hold f a v ≡ may_hold e a v = rw out in
    rw same t

pub file_marked : {e : Bool} (f : Bool) {l : List ℕ} → LegalFile e l → T (may_hold f 0xFA (held_in l 0xFA)) → LegalFile f l
file_marked {e} f {l} k may = record { long = k.long; bytes = k.bytes; places = λ a. go a (ℕ_discrete a 0xFA) }
  where
    go : (a : ℕ) → Dec (a ≡ 0xFA) → T (may_hold f a (held_in l a))
    go a (yes own) = rw own may
    go a (no other) = other_may e f a (held_in l a) other (k.places a)

implied : (a b : Bool) → T (not a || b) → T a → T b
implied true b u t = u
implied false b u t = absurd t

-- what IRQ may hold is what fits the request register
pub may_fit : (e : Bool) (v : ℕ) → T (may_hold e 0xFA v) → T (requests_fit (record { irq = v; released = e }))
unfolding may_hold
may_fit e v t = t

pub fits_may : (e : Bool) (v : ℕ) → T (requests_fit (record { irq = v; released = e })) → T (may_hold e 0xFA v)
unfolding may_hold
fits_may e v t = t

-- what fits while IRQ is held fits once it is released
file_released : {e : Bool} {l : List ℕ} → LegalFile e l → LegalFile true l
file_released {e} {l} f =
    let v = held_in l 0xFA in
    let small : v < 64 = fits_irq (record { irq = v; released = e }) (may_fit e v (f.places 0xFA)) in
    file_marked true f (fits_may true v (released_fits v small))

-- the enable bit is no matter of legality
recounted : {t : Timer} {e f : Bool} → LegalCounting (record { timer = t; enabled = e }) → LegalCounting (record { timer = t; enabled = f })
recounted l =
    record { prescaler_low = l.prescaler_low; prescaler_high = l.prescaler_high; counter_low = l.counter_low; counter_high = l.counter_high }

pub placed_legal : {m : Machine} (a v : ℕ) → Legal m → a < 256 → v < 256 → T (may_hold m.released a v) → Legal (placed m a v)
unfolding placed moving_of
placed_legal {m} a v l h byte may =
    let f = file_placed a v l.file h byte may in
    record {
      file = f;
      pc_word = l.pc_word;
      moving =
          record {
            divider_high = l.moving.divider_high;
            counting0 = recounted l.moving.counting0;
            counting1 = recounted l.moving.counting1;
            requests_fit_lem = may_fit m.released _ (f.places 0xFA);
            port_legal = l.moving.port_legal;
          };
      last3_byte = l.last3_byte;
      kind = l.kind;
      cost = l.cost;
    }

counts_legal : {m : Machine} (x : Moving) → Legal m → LegalMoving x → Legal (counts_at m x)
unfolding counts_at moving_of
counts_legal x l k =
    record {
      file = l.file;
      pc_word = l.pc_word;
      moving =
          record {
            divider_high = k.divider_high;
            counting0 = recounted k.counting0;
            counting1 = recounted k.counting1;
            requests_fit_lem = l.moving.requests_fit_lem;
            port_legal = l.moving.port_legal;
          };
      last3_byte = l.last3_byte;
      kind = l.kind;
      cost = l.cost;
    }

pub pc_legal : {m : Machine} (pc : ℕ) → Legal m → pc < 65536 → Legal (with_pc m pc)
unfolding with_pc moving_of
pc_legal pc l h =
    record { file = l.file; pc_word = h; moving = l.moving; last3_byte = l.last3_byte; kind = l.kind; cost = l.cost }

pub last3_legal : {m : Machine} (port3 : ℕ) → Legal m → port3 < 256 → Legal (with_last3 m port3)
unfolding with_last3 moving_of
last3_legal port3 l h =
    record { file = l.file; pc_word = l.pc_word; moving = l.moving; last3_byte = h; kind = l.kind; cost = l.cost }

pub with_port_legal : {m : Machine} (p : Port) → Legal m → LegalPort p → Legal (with_port m p)
unfolding with_port moving_of
with_port_legal p l h =
    let x = l.moving in
    record {
      file = l.file;
      pc_word = l.pc_word;
      moving = record { divider_high = x.divider_high; counting0 = x.counting0; counting1 = x.counting1; requests_fit_lem = x.requests_fit_lem; port_legal = h };
      last3_byte = l.last3_byte;
      kind = l.kind;
      cost = l.cost;
    }

pub released_legal : {m : Machine} → Legal m → Legal (with_released m true)
unfolding with_released moving_of
released_legal {m} l =
    let x = l.moving in
    let f = file_released l.file in
    record {
      file = f;
      pc_word = l.pc_word;
      moving =
          record {
            divider_high = x.divider_high;
            counting0 = x.counting0;
            counting1 = x.counting1;
            requests_fit_lem = may_fit true (held m 0xFA) (f.places 0xFA);
            port_legal = x.port_legal;
          };
      last3_byte = l.last3_byte;
      kind = l.kind;
      cost = l.cost;
    }

-- ---- ports
-- the pins given with a call are bytes
pub record LegalPins (p : Pins) : Type 0 where
  pub port0_byte : p.port0 < 256
  pub port1_byte : p.port1 < 256
  pub port2_byte : p.port2 < 256
  pub port3_byte : p.port3 < 256

-- bits of two bytes, by a mask of one
masked_byte : (mask a b : ℕ) → mask < 256 → a < 256 → b < 256 → masked mask a b < 256
unfolding masked
masked_byte mask a b hm ha hb =
    or_lt 8 (bit_and mask a) (bit_and (255 - mask) b) (and_lt 8 mask a hm ha) (and_lt 8 (255 - mask) b (omega arith) hb)

-- what a port has, where each of the four has it
of_port_lem : {A : Type 0} (P : A → Type 0) (n : ℕ) (p0 p1 p2 p3 : A) → P p0 → P p1 → P p2 → P p3 → P (of_port n p0 p1 p2 p3)
of_port_lem P n p0 p1 p2 p3 h0 h1 h2 h3 =
    by_test P (eqb n 0) (λ t. h0) (λ t. by_test P (eqb n 1) (λ u. h1) (λ u. by_test P (eqb n 2) (λ w. h2) (λ w. h3)))

pub record ByteLines (d : Directions) : Type 0 where
  pub inputs_byte : d.inputs < 256
  pub address_byte : d.address < 256

-- a byte computed from a byte
byte_of : (f : ℕ → ℕ) → T (below (λ x. ltb (f x) 256) 256) → (x : ℕ) → x < 256 → f x < 256
byte_of f t x h = ltb→lt (f x) 256 (at (λ y. ltb (f y) 256) 256 t x h)

lines_bytes : (p01m p2m n : ℕ) → p01m < 256 → p2m < 256 → ByteLines (directions_of p01m p2m n)
unfolding directions_of port0_directions port1_directions port2_directions port3_directions
lines_bytes p01m p2m n g h =
    of_port_lem ByteLines n (port0_directions p01m) (port1_directions p01m) (port2_directions p2m) port3_directions
    (record { inputs_byte = byte_of (λ x. (port0_directions x).inputs) tt p01m g; address_byte = byte_of (λ x. (port0_directions x).address) tt p01m g })
    (record { inputs_byte = byte_of (λ x. (port1_directions x).inputs) tt p01m g; address_byte = byte_of (λ x. (port1_directions x).address) tt p01m g })
    (record { inputs_byte = h; address_byte = lit< tt })
    (record { inputs_byte = lit< tt; address_byte = lit< tt })

pins_byte : (p : Pins) (n : ℕ) → LegalPins p → pins_of p n < 256
unfolding pins_of
pins_byte p n l = of_port_lem (λ v. v < 256) n p.port0 p.port1 p.port2 p.port3 l.port0_byte l.port1_byte l.port2_byte l.port3_byte

-- what a store leaves in TMR, IRQ and RP
kept_byte : (v : ℕ) → v < 256 → kept v < 256
unfolding kept
kept_byte v h = and_lt 8 v 0xFA h (lit< tt)

kept_may : (e : Bool) (v : ℕ) → v < 256 → T (may_hold e 0xF1 (kept v))
unfolding may_hold kept
kept_may e v h = at (λ x. may_hold e 0xF1 (kept x)) 256 tt v h

irq_may : (e : Bool) (v : ℕ) → e ≡ true → T (may_hold e 0xFA (v % 64))
irq_may e v released = rw released (fits_may true (v % 64) (released_fits (v % 64) (omega arith)))

rp_may : (e : Bool) (v : ℕ) → v < 256 → T (may_hold e 0xFD (upper v * 16))
unfolding may_hold
rp_may e v h = at (λ x. may_hold e 0xFD (upper x * 16)) 256 tt v h

-- what a register reads is a byte
module _ {m : Machine} (l : Legal m) where
  port_lines : (a : ℕ) → ByteLines (port_directions m a)
  port_lines a = lines_bytes (held m 0xF8) (held m 0xF6) a (l.file.bytes 0xF8) (l.file.bytes 0xF6)

  own_port : LegalPort m.port
  unfolding moving_of
  own_port = l.moving.port_legal

  pub read_byte : (p : Pins) (a : ℕ) → LegalPins p → read_reg p m a < 256
  unfolding read_reg read_port port_reads
  read_byte p a lp =
      by_test B (ltb a 0x04)
      (λ t. masked_byte (port_directions m a).address 0xFF _ (port_lines a).address_byte (lit< tt)
      (masked_byte (port_directions m a).inputs (pins_of p a) (held m a) (port_lines a).inputs_byte (pins_byte p a lp) (l.file.bytes a))) (λ t.
      by_test B (is_hole a) (λ u. by_test B (eqb a 0xF0) (λ e. sio_byte m own_port.legal_receiver.received_byte_lem) (λ e. lit< tt)) (λ u.
      by_test B (is_write_only a) (λ u. lit< tt) (λ u.
      by_test B (eqb a 0xF2) (λ u. omega arith) (λ u.
      by_test B (eqb a 0xF4) (λ u. omega arith) (λ u.
      by_test B (eqb a 0xFB) (λ u. and_lt 8 (held m a) 0xBF (l.file.bytes a) (lit< tt)) (λ u. l.file.bytes a))))))
    where
      B : ℕ → Type 0
      B v = v < 256

  -- ---- stores
  port_legal : (a v : ℕ) → a < 0x04 → v < 256 → Legal (write_port m a v)
  unfolding write_port port_stores may_hold
  port_legal a v h hv =
      placed_legal a _ l (omega arith)
      (masked_byte (port_directions m a).address (held m a) v (port_lines a).address_byte (l.file.bytes a) hv)
      (under (ltb a 0x04) _ (at (λ x. not (ltb x 0x04) || may_hold m.released x (masked (port_directions m a).address (held m a) v)) 256 tt a (omega arith)) (lt-ltb a 0x04 h))

  registers_bytes : (tmr : ℕ) → ControlBytes (control_with m tmr)
  unfolding control_with
  registers_bytes tmr =
      record { t1_byte = l.file.bytes 0xF2; pre1_byte = l.file.bytes 0xF3; t0_byte = l.file.bytes 0xF4; pre0_byte = l.file.bytes 0xF5 }

  tmr_legal : (v : ℕ) → v < 256 → Legal (write_tmr m v)
  unfolding write_tmr counts_at
  tmr_legal v hv =
      placed_legal 0xF1 (kept v)
      (counts_legal (written (control_with m v) (moving_of m)) l (written_legal (control_with m v) (moving_of m) (registers_bytes v) l.moving))
      (lit< tt)
      (kept_byte v hv)
      (kept_may m.released v hv)

  sio_legal : (v : ℕ) → v < 256 → Legal (write_sio m v)
  unfolding with_transmitter
  sio_legal v hv =
      let sends : LegalPort _ = record { legal_receiver = own_port.legal_receiver; legal_transmitter = stored_legal (port_mode m).parity v hv } in
      sio_either m v Legal (with_port_legal _ l sends) l

  irq_legal : (v : ℕ) → Legal (write_irq m v)
  irq_legal v = irq_either m v Legal (λ released. placed_legal 0xFA (v % 64) l (lit< tt) (omega arith) (irq_may m.released v released)) l

  pub write_legal : (a v : ℕ) → a < 256 → v < 256 → Legal (write_reg m a v)
  unfolding write_reg may_hold
  write_legal a v ha hv =
      by_test Legal (ltb a 0x04) (λ t. port_legal a v (ltb-true a 0x04 t) hv) (λ t.
      by_test Legal (is_hole a) (λ u. by_test Legal (eqb a 0xF0) (λ e. sio_legal v hv) (λ e. l)) (λ hole.
      by_test Legal (eqb a 0xF1) (λ e. tmr_legal v hv) (λ n1.
      by_test Legal (eqb a 0xFA) (λ e. irq_legal v) (λ na.
      by_test Legal (eqb a 0xFD) (λ e. placed_legal a (upper v * 16) l ha (omega arith) (rw (eqb-true a 0xFD e) (rp_may m.released v hv))) (λ nd.
      placed_legal a v l ha hv (rw (hole, n1, na, nd) tt))))))

-- ---- pairs and the stack
pub pair_legal : {m : Machine} (a w : ℕ) → Legal m → a < 256 → w < 65536 → Legal (write_pair m a w)
unfolding write_pair
pair_legal a w l ha hw =
    write_legal (write_legal l (even_of a) (high_byte w) (omega arith) (omega arith)) (even_of a + 1) (low_byte w) (omega arith) (omega arith)

-- all of a list are bytes
abbrev pub AllBytes : List ℕ → Type 0
AllBytes [] = Unit {0}
AllBytes (v ∷ vs) = (v < 256) × AllBytes vs

from_legal : {m : Machine} (a : ℕ) (vs : List ℕ) → Legal m → a < 256 → AllBytes vs → Legal (written_from m a vs)
from_legal {m = m} a [] l h all = l
from_legal {m = m} a (v ∷ vs) l h all = from_legal {m = write_reg m a v} ((a + 1) % 256) vs (write_legal l a v h all.0) (omega arith) all.1

-- SPH and SPL may hold any byte
spl_legal : {m : Machine} (sp : ℕ) → Legal m → sp < 256 → Legal (placed m 0xFF sp)
unfolding may_hold
spl_legal sp l h = placed_legal 0xFF sp l (lit< tt) h tt

sp_legal : {m : Machine} (sp : ℕ) → Legal m → sp < 65536 → Legal (sp_set m sp)
unfolding sp_set may_hold
sp_legal sp l h = spl_legal (low_byte sp) (placed_legal 0xFE (high_byte sp) l (lit< tt) (omega arith) tt) (omega arith)

pub pushed_legal : {m : Machine} (b : bytes.Bytes) → Legal m → AllBytes (list_of b) → Legal (pushed m b).machine
unfolding pushed pushed_internal pushed_external
pushed_legal {m} b l all =
    by_test (λ (s : Stacked). Legal s.machine) (is_internal m)
    (λ t. from_legal sp (list_of b) (spl_legal sp l (omega arith)) (omega arith) all)
    (λ t. sp_legal (plus (sp_of m) (65536 - length (list_of b))) l (omega arith))
  where
    sp : ℕ
    sp = (spl m + (256 - length (list_of b))) % 256

pub raised_legal : {m : Machine} (n : ℕ) → Legal m → Legal (raised m n)
unfolding raised
raised_legal {m} n l =
    by_test Legal (is_internal m) (λ t. spl_legal ((spl m + n) % 256) l (omega arith)) (λ t. sp_legal (plus (sp_of m) n) l (omega arith))

-- ---- reset and the new machine
abbrev fits : Place → Bool
fits p = ltb p.address 256 && (ltb p.byte 256 && may_hold true p.address p.byte)

abbrev all_fit : List Place → Bool
all_fit [] = true
all_fit (p ∷ ps) = fits p && all_fit ps

all_placed : {l : List ℕ} (ps : List Place) → T (all_fit ps) → LegalFile true l → LegalFile true (placed_all l ps)
all_placed {l = l} [] t f = f
all_placed {l = l} (p ∷ ps) t f =
    let here = and_left (fits p) (all_fit ps) t in
    let more = and_right (ltb p.address 256) (ltb p.byte 256 && may_hold true p.address p.byte) here in
    all_placed {l = placed_in l p.address p.byte} ps (and_right (fits p) (all_fit ps) t)
    (file_placed p.address p.byte f
    (ltb→lt p.address 256 (and_left (ltb p.address 256) _ here))
    (ltb→lt p.byte 256 (and_left (ltb p.byte 256) (may_hold true p.address p.byte) more))
    (and_right (ltb p.byte 256) (may_hold true p.address p.byte) more))

reset_fits : T (all_fit reset_places)
unfolding reset_places may_hold requests_fit
reset_fits = tt

-- what a place holds when all are placed: the last that is placed there
abbrev last_at : ℕ → List Place → ℕ → ℕ
last_at a [] v = v
last_at a (p ∷ ps) v = last_at a ps (pick (eqb a p.address) p.byte v)

held_placed : (l : List ℕ) (p : Place) (a : ℕ) → length l ≡ 256 → p.address < 256
    → held_in (placed_in l p.address p.byte) a ≡ pick (eqb a p.address) p.byte (held_in l a)
held_placed l p a long h = go (ℕ_discrete a p.address)
  where
    go : Dec (a ≡ p.address) → held_in (placed_in l p.address p.byte) a ≡ pick (eqb a p.address) p.byte (held_in l a)
    go (yes own) = rw (own, eq-eqb p.address p.address refl) (held_same l p.address p.byte long h)
    go (no other) = rw (ne_eqb a p.address other) (held_other l p.address a p.byte other)

all_held : (l : List ℕ) (ps : List Place) (a : ℕ) → T (all_fit ps) → length l ≡ 256 → held_in (placed_all l ps) a ≡ last_at a ps (held_in l a)
all_held l [] a t long = refl
all_held l (p ∷ ps) a t long =
    let h : p.address < 256 = ltb→lt p.address 256 (and_left (ltb p.address 256) _ (and_left (fits p) (all_fit ps) t)) in
    all_held (placed_in l p.address p.byte) ps a (and_right (fits p) (all_fit ps) t) (place_long l p.address p.byte ∙ long)
    ∙ ap (last_at a ps) (held_placed l p a long h)

pub resting_legal : LegalPort resting_port
resting_legal = record { legal_receiver = waiting_legal 0 (lit< tt); legal_transmitter = idle_legal }

-- a legal file, a type and an entry cost make a legal machine
started_legal : {e : Bool} (file : List ℕ) (kind cost : ℕ) → LegalFile e file → T (is_kind kind) → T (is_cost cost) → Legal (started_with file kind cost)
unfolding reset_places moving_of
started_legal file kind cost f k c =
    let irq_zero : held_in (placed_all file reset_places) 0xFA ≡ 0 = all_held file reset_places 0xFA reset_fits f.long in
    let after : LegalFile false (placed_all file reset_places) =
    file_marked false (all_placed reset_places reset_fits (file_released f)) (rw irq_zero (fits_may false 0 (zero_fits false))) in
    record {
      file = after;
      pc_word = lit< tt;
      moving =
          record {
            divider_high = lit< tt;
            counting0 = record { prescaler_low = lit< tt; prescaler_high = lit≤ tt; counter_low = lit< tt; counter_high = lit≤ tt };
            counting1 = record { prescaler_low = lit< tt; prescaler_high = lit≤ tt; counter_low = lit< tt; counter_high = lit≤ tt };
            requests_fit_lem = may_fit false _ (after.places 0xFA);
            port_legal = resting_legal;
          };
      last3_byte = lit< tt;
      kind = k;
      cost = c;
    }

pub reset_legal : (m : Machine) → Legal m → Legal (reset_of m)
unfolding reset_of
reset_legal m l = started_legal m.regs m.kind m.cost l.file l.kind l.cost

-- a file of zeros
zero_held : (n a : ℕ) → ◌≡◌ {A = ℕ} (get_or (replicate n 0) a 0) 0
zero_held zero a = refl
zero_held (suc n) zero = refl
zero_held (suc n) (suc a) = zero_held n a

pub zero_may : (e : Bool) (a : ℕ) → T (may_hold e a 0)
unfolding may_hold
zero_may e a =
    by_test T (is_hole a) (λ t. tt) (λ t.
    by_test T (eqb a 0xF1) (λ u. tt) (λ u. by_test T (eqb a 0xFA) (λ w. zero_fits e) (λ w. by_test T (eqb a 0xFD) (λ z. tt) (λ z. tt))))

zeros_legal : LegalFile false (replicate 256 0)
unfolding held_in
zeros_legal =
    record {
      long = refl;
      bytes = λ a. rw (zero_held 256 a) (lit< tt);
      places = λ a. rw (zero_held 256 a) (zero_may false a);
    }

pub new_legal : (kind cost : ℕ) → T (is_kind kind) → T (is_cost cost) → Legal (new_of kind cost)
unfolding new_of
new_legal kind cost k c = started_legal (replicate 256 0) kind cost zeros_legal k c

-- ---- cycles
enabling_may : (e a b : Bool) (x : ℕ) → x < 256 → T (may_hold e 0xF1 x) → (enabling x a b < 256) × T (may_hold e 0xF1 (enabling x a b))
unfolding enabling may_hold
enabling_may e a b x h t = (
  ltb→lt (enabling x a b) 256 (rw (every (λ c d y. ltb (enabling y c d) 256) (λ c d y. true) refl refl refl refl a b x h) tt),
  implied (may_hold e 0xF1 x) (may_hold e 0xF1 (enabling x a b)) (rw (every (λ c d y. not (may_hold e 0xF1 y) || may_hold e 0xF1 (enabling y c d)) (λ c d y. true) refl refl refl refl a b x h) tt) t,
)

pub moved_legal : {m : Machine} (x : Moving) → Legal m → LegalMoving x → Legal (moved_to m x)
unfolding moved_to placed counts_at with_released with_port
moved_legal {m} x l k =
    let r = x.lines.requests in
    let tmr = enabling (held m 0xF1) x.t0.enabled x.t1.enabled in
    let small : r.irq < 64 = fits_irq r k.requests_fit_lem in
    let e = enabling_may true x.t0.enabled x.t1.enabled (held m 0xF1) (l.file.bytes 0xF1) ((file_released l.file).places 0xF1) in
    let with_tmr : LegalFile true (placed_in m.regs 0xF1 tmr) = file_placed 0xF1 tmr (file_released l.file) (lit< tt) e.0 e.1 in
    let with_irq : LegalFile true (placed_in (placed_in m.regs 0xF1 tmr) 0xFA r.irq) =
    file_placed 0xFA r.irq with_tmr (lit< tt) (omega (arith, small)) (fits_may true r.irq (released_fits r.irq small)) in
    let seen : LegalMoving (moving_of (moved_to m x)) = rw (put_seen m l.file.long (l.file.bytes 0xF1) x) k in
    record {
      file =
          file_marked r.released with_irq
          (rw (held_same (placed_in m.regs 0xF1 tmr) 0xFA r.irq with_tmr.long (lit< tt)) (fits_may r.released r.irq k.requests_fit_lem));
      pc_word = l.pc_word;
      moving = seen;
      last3_byte = l.last3_byte;
      kind = l.kind;
      cost = l.cost;
    }

pub setting_of_lem : {m : Machine} → Legal m → LegalSetting (setting_of (control_of m))
unfolding control_of
setting_of_lem {m} l = setting_legal (control_with m (held m 0xF1)) (registers_bytes l (held m 0xF1))

pub span_legal : {m : Machine} (n : ℕ) → Legal m → Legal (span_of n m).machine
unfolding shown
span_legal {m} n l =
    rw (span_is m l.file.long (l.file.bytes 0xF1) n)
    (moved_legal (cycles (setting_of (control_of m)) n (moving_of m)).moving l (cycles_legal (setting_of (control_of m)) (setting_of_lem l) n (moving_of m) l.moving))

pub default_legal : Legal default_of
unfolding default_of
default_legal = new_legal 11 20 tt tt

-- what can be made is legal
pub made_legal : (kind cost : ℕ) → IfOk (made_of kind cost) (λ m. Legal m)
unfolding made_of
made_legal kind cost = go (is_kind kind && is_cost cost) refl
  where
    go : (b : Bool) → is_kind kind && is_cost cost ≡ b → IfOk (pick {A = Result Machine Refusal} b (Ok (new_of kind cost)) (Err refusal.Making)) (λ m. Legal m)
    go true e =
        let t : T (is_kind kind && is_cost cost) = rw e tt in
        new_legal kind cost (and_left (is_kind kind) (is_cost cost) t) (and_right (is_kind kind) (is_cost cost) t)
    go false e = tt

-- ---- addresses, words and bytes read
pub working_byte : (m : Machine) (x : ℕ) → Legal m → x < 16 → working_at m x < 256
unfolding working_at
working_byte m x l h = omega (arith, l.file.bytes 0xFD)

pub register_byte : (m : Machine) (b : ℕ) → Legal m → b < 256 → register_at m b < 256
unfolding register_at
register_byte m b l h = by_test (λ a. a < 256) (eqb (upper b) 0x0E) (λ t. working_byte m (lower b) l (omega arith)) (λ t. h)

pub indexed_byte : (p : Pins) (m : Machine) (offset x : ℕ) → indexed_at p m offset x < 256
unfolding indexed_at
indexed_byte p m offset x = omega arith

pub pair_word : (p : Pins) (m : Machine) (a : ℕ) → Legal m → LegalPins p → read_pair p m a < 65536
unfolding read_pair
pair_word p m a l lp = omega (arith, read_byte l p (even_of a) lp, read_byte l p (even_of a + 1) lp)

-- of memories that hold bytes
pub program_byte_lem : (image : List ℕ) (a : ℕ) → ((i : ℕ) → get_or image i 0xFF < 256) → program_byte image a < 256
unfolding program_byte
program_byte_lem image a bytes = bytes a

pub data_byte_lem : (kind : ℕ) (mem : List ℕ) (a : ℕ) → ((i : ℕ) → get_or mem i 0xFF < 256) → data_byte kind mem a < 256
unfolding data_byte
data_byte_lem kind mem a bytes = by_test (λ v. v < 256) (ltb a (data_start kind)) (λ t. lit< tt) (λ t. bytes a)

pub stack_byte_lem : (p : Pins) (m : Machine) (mem : List ℕ) (i : ℕ) → Legal m → LegalPins p → ((i : ℕ) → get_or mem i 0xFF < 256) → stack_byte p m mem i < 256
unfolding stack_byte
stack_byte_lem p m mem i l lp bytes =
    by_test (λ v. v < 256) (is_internal m) (λ t. read_byte l p ((spl m + i) % 256) lp) (λ t. data_byte_lem m.kind mem (plus (sp_of m) i) bytes)
