-- A legal 276 bytes loads to a legal machine whose saved form is those bytes, and a legal machine's saved form is legal and loads to it.
use mathlib.Core.Path.{◌≡◌, ◌∙◌, refl, sym, ap}
use mathlib.Core.Bool.{Bool, true, false, not, ◌&&◌, ◌||◌}
use mathlib.Core.List.{List, [], ◌∷◌, ◌++◌}
use Prim.Native.Nat.{ℕ, zero, suc, ◌+◌, ◌≤◌, ◌<◌}
use native.Mathlib.Omega.{arith}
use native.Mathlib.Decide.{dec_lt, ℕ_discrete}
use native.Mathlib.Nat.{mod-eq_of_lt}
use borrow.Author.Tests.{eqb-true, eqb-false, eq-eqb, ne_eqb, le-leb}
use Rattle.std.proofs.lemmas.Bool.Decides.{nat_tests}
use lib.Dec.{T, eqb, ltb, leb, eqb→eq, ltb→lt, leb→le, lit<, lit≤}
use lib.ListN.{get_or, length, take, drop, length-append, take-append-drop, drop_of_length-le, get_or-eq_default, get_or-append}
use lib.Seq.{drop-cons, length-take-le, get_or-take, get_or-append-add, take_at}
use Rattle.std.specs.Prelude.{Ok, Err}
use Rattle.numbers.specs.Numbers.{answered, refused_machine, refused_length, saved_length}
use Rattle.numbers.specs.declared.Refusal.TheVariants as refusal
use Rattle.word.specs.Choose.{pick, one_if}
use Rattle.word.specs.Fields.{bit_of, is_set, lower, word_of, high_byte, low_byte}
use Rattle.word.proofs.Computed.{by_test, at, under, agree, and_left, and_right}
use Rattle.serial.specs.Transmitter.{transmitter_fits}
use Rattle.serial.specs.Receiver.{receiver_fits}
use Rattle.timers.specs.Control.{or_highest}
use Rattle.timers.proofs.Latched.{fits_irq, fits_zero, zero_fits, released_fits}
use Rattle.machine.specs.State.{held_in}
use Rattle.machine.specs.Clock.{moving_of}
use Rattle.machine.specs.Registers.{is_hole}
use Rattle.machine.specs.Start.{is_kind, is_cost}
use Rattle.machine.specs.Legal.{may_hold, LegalFile, Legal}
use Rattle.machine.specs.declared.Machine.{Machine}
use Rattle.machine.proofs.Legal.{zero_may, may_fit, fits_may}
use Rattle.saved.specs.Saved.{byte, timer_of, port_of, port_fits, machine_of, rest_of, saved_of, counts_fit, own_fit, mark_fits, zeros, holes_empty, bits_clear, legal_of, first_of, legal_refusal, refusal_of, length_refusal}
use Rattle.saved.specs.ForCode.{load_of}

-- what is not refused with 7 is as long as a saved machine
pub right_length : (s : List ℕ) → length_refusal s ≡ 0 → length s ≡ saved_length
right_length s e = eqb-true (length s) saved_length (is_true (eqb (length s) saved_length) e)
  where
    is_true : (b : Bool) → pick b 0 refused_length ≡ 0 → b ≡ true
    is_true true h = refl
    is_true false h = absurd (omega arith)

-- what is not refused is so too, and legal
pub loads_long : (s : List ℕ) → refusal_of s ≡ 0 → length s ≡ saved_length
unfolding refusal_of
loads_long s = λ e. right_length s (first_none (length_refusal s) (legal_refusal s) e)
  where
    first_none : (a b : ℕ) → first_of (a ∷ b ∷ []) ≡ 0 → a ≡ 0
    first_none a b = by_test (λ (r : ℕ). r ≡ 0 → a ≡ 0) (eqb a 0) (λ t h. eqb-true a 0 t) (λ t h. h)

pub loads_legal : (s : List ℕ) → refusal_of s ≡ 0 → T (legal_of s)
unfolding refusal_of
loads_legal s e = is_legal (eqb (length s) saved_length) (legal_of s) e
  where
    is_legal : (b l : Bool) → first_of (pick b 0 refused_length ∷ pick l 0 refused_machine ∷ []) ≡ 0 → T l
    is_legal true true h = tt
    is_legal true false h = absurd (omega arith)
    is_legal false l h = absurd (omega arith)

-- what bytes load to is refused as they are
pub load_refuses : (s : List ℕ) → answered (load_of s) ≡ refusal_of s
unfolding load_of refusal_of
load_refuses s = go (eqb (length s) saved_length) (legal_of s)
  where
    go : (b l : Bool) → answered (pick b (pick l (Ok (machine_of s)) (Err refusal.Machine)) (Err refusal.Length)) ≡ first_of (pick b 0 refused_length ∷ pick l 0 refused_machine ∷ [])
    go true true = refl
    go true false = refl
    go false l = refl

-- ---- a list's front, and its rest one by one
each_front : (P : ℕ → Type 0) (s : List ℕ) (n a : ℕ) → n ≤ length s → (a < n → P (get_or s a 0)) → P 0 → P (get_or (take n s) a 0)
each_front P s n a k p z = go (dec_lt a n)
  where
    go : Dec (a < n) → P (get_or (take n s) a 0)
    go (yes h) = rw (get_or-take n s a 0 h) (p h)
    go (no h) = rw (get_or-eq_default (take n s) 0 {n = a} (rw (length-take-le n s k) (omega arith))) z

abbrev listed : List ℕ → ℕ → ℕ → List ℕ
listed s i zero = []
listed s i (suc n) = byte s i ∷ listed s (suc i) n

rest_listed : (s : List ℕ) (n i : ℕ) → i + n ≡ length s → drop i s ≡ listed s i n
rest_listed s zero i e = drop_of_length-le s {i = i} (omega arith)
rest_listed s (suc n) i e = drop-cons s i 0 (omega arith) ∙ ap (λ (l : List ℕ). byte s i ∷ l) (rest_listed s n (suc i) (omega arith))

-- ---- what the numbers become, and become again
high_back : (x y : ℕ) → y < 256 → high_byte (word_of x y) ≡ x
high_back x y h = omega arith

low_back : (x y : ℕ) → y < 256 → low_byte (word_of x y) ≡ y
low_back x y h = omega arith

word_back : (w : ℕ) → word_of (high_byte w) (low_byte w) ≡ w
word_back w = omega arith

counter_back : (v : ℕ) → v < 256 → low_byte (or_highest 256 v) ≡ v
unfolding or_highest
counter_back v h = agree (λ x. low_byte (or_highest 256 x)) (λ x. x) 256 refl v h

counter_again : (c : ℕ) → 0 < c → c ≤ 256 → or_highest 256 (low_byte c) ≡ c
unfolding or_highest
counter_again c lo hi = go (dec_lt c 256)
  where
    go : Dec (c < 256) → pick (eqb (low_byte c) 0) 256 (low_byte c) ≡ c
    go (yes h) = rw (mod-eq_of_lt h, ne_eqb c 0 (omega arith))
    go (no h) = let e : c ≡ 256 = omega arith in rw e

level_back : (v : ℕ) → v ≤ 1 → one_if (eqb v 1) ≡ v
level_back v h = agree (λ x. one_if (eqb x 1)) (λ x. x) 2 refl v (omega arith)

level_again : (b : Bool) → eqb (one_if b) 1 ≡ b
level_again true = refl
level_again false = refl

mark_back : (v : ℕ) → v ≤ 1 → one_if (is_set 0 v) ≡ v
mark_back v h = agree (λ x. one_if (is_set 0 x)) (λ x. x) 2 refl v (omega arith)

mark_again : (b : Bool) → is_set 0 (one_if b) ≡ b
mark_again true = refl
mark_again false = refl

-- ---- what a legal 276 bytes say
passed : (b : Bool) → T b → b ≡ true
passed true t = refl
passed false t = absurd t

passes : {b : Bool} → b ≡ true → T b
passes e = rw e tt

pub record Facts (s : List ℕ) : Type 0 where
  pub divider : byte s 258 ≤ 3
  pub prescaler0_low : 1 ≤ byte s 259
  pub prescaler0_high : byte s 259 ≤ 64
  pub prescaler1_low : 1 ≤ byte s 261
  pub prescaler1_high : byte s 261 ≤ 64
  pub cost : T (is_cost (byte s 266))
  pub tout : byte s 264 ≤ 1
  pub kind : T (is_kind (byte s 265))
  pub mark_bits : byte s 267 ≤ 1
  pub mark : T (is_set 0 (byte s 267) || eqb (byte s 0xFA) 0)
  pub holes : T (holes_empty s)
  pub receiver : T (receiver_fits (port_of s).receiver)
  pub transmitter : T (transmitter_fits (port_of s).transmitter)
  pub port_spare : byte s 275 ≡ 0
  pub tmr : T (eqb (bit_of 0 (byte s 0xF1)) 0 && eqb (bit_of 2 (byte s 0xF1)) 0)
  pub irq : T (eqb (bit_of 6 (byte s 0xFA)) 0 && eqb (bit_of 7 (byte s 0xFA)) 0)
  pub rp : T (eqb (lower (byte s 0xFD)) 0)

facts : (s : List ℕ) → T (legal_of s) → Facts s
unfolding legal_of counts_fit own_fit mark_fits bits_clear port_fits
facts s t =
    let legal : legal_of s ≡ true = passed (legal_of s) t in
    record {
      divider = grind (arith, nat_tests);
      prescaler0_low = grind (arith, nat_tests);
      prescaler0_high = grind (arith, nat_tests);
      prescaler1_low = grind (arith, nat_tests);
      prescaler1_high = grind (arith, nat_tests);
      cost = passes (grind (arith, nat_tests));
      tout = grind (arith, nat_tests);
      kind = passes (grind (arith, nat_tests));
      mark_bits = grind (arith, nat_tests);
      mark = passes (grind (arith, nat_tests));
      holes = passes (grind (arith, nat_tests));
      receiver = passes (grind (arith, nat_tests));
      transmitter = passes (grind (arith, nat_tests));
      port_spare = grind (arith, nat_tests);
      tmr = passes (grind (arith, nat_tests));
      irq = passes (grind (arith, nat_tests));
      rp = passes (grind (arith, nat_tests));
    }

-- the holes of a saved machine
zeros_at : (s : List ℕ) (n i : ℕ) → T (zeros s i n) → (a : ℕ) → i ≤ a → a < i + n → byte s a ≡ 0
zeros_at s zero i t a h k = absurd (omega arith)
zeros_at s (suc n) i t a h k =
    go (ℕ_discrete a i) (λ l. zeros_at s n (i + 1) (and_right (eqb (byte s i) 0) (zeros s (i + 1) n) t) a l (omega arith))
  where
    go : Dec (a ≡ i) → (i + 1 ≤ a → byte s a ≡ 0) → byte s a ≡ 0
    go (yes e) later = rw e (eqb→eq (byte s i) 0 (and_left (eqb (byte s i) 0) (zeros s (i + 1) n) t))
    go (no d) later = later (omega arith)

zeros_from : (s : List ℕ) (n i : ℕ) → ((a : ℕ) → i ≤ a → a < i + n → byte s a ≡ 0) → T (zeros s i n)
zeros_from s zero i f = tt
zeros_from s (suc n) i f =
    rw (f i (omega arith) (omega arith)) (zeros_from s n (i + 1) (λ a h k. f a (omega arith) (omega arith)))

-- a hole may hold zero alone
hole_holds : (e : Bool) (a v : ℕ) → 0x80 ≤ a → a ≤ 0xF0 → T (may_hold e a v) → v ≡ 0
unfolding may_hold
hole_holds e a v h k t = eqb→eq v 0 (rw (le-leb 0x80 a h, le-leb a 0xF0 k) at t)

hole_empty : (s : List ℕ) → T (holes_empty s) → (a : ℕ) → is_hole a ≡ true → byte s a ≡ 0
unfolding holes_empty
hole_empty s t a e =
    let hole : T (leb 0x80 a && leb a 0xF0) = rw e tt in
    zeros_at s 113 0x80 t a
    (leb→le 0x80 a (and_left (leb 0x80 a) (leb a 0xF0) hole))
    (within a (leb→le a 0xF0 (and_right (leb 0x80 a) (leb a 0xF0) hole)))
  where
    within : (b : ℕ) → b ≤ 0xF0 → b < 0x80 + 113
    within b h = omega arith

-- IRQ, its bits as 01 and C-13 say it, and as it may be held
irq_holds : (e : Bool) (v : ℕ) → v < 256 → T (eqb (bit_of 6 v) 0 && eqb (bit_of 7 v) 0) → T (e || eqb v 0) → T (may_hold e 0xFA v)
irq_holds true v h t u =
    fits_may true v (released_fits v (ltb→lt v 64 (under (eqb (bit_of 6 v) 0 && eqb (bit_of 7 v) 0) (ltb v 64) (at (λ x. not (eqb (bit_of 6 x) 0 && eqb (bit_of 7 x) 0) || ltb x 64) 256 tt v h) (passed _ t))))
irq_holds false v h t u = rw (eqb→eq v 0 u) (fits_may false 0 (zero_fits false))

irq_held : (e : Bool) (v : ℕ) → T (may_hold e 0xFA v) → T (eqb (bit_of 6 v) 0 && eqb (bit_of 7 v) 0) × T (e || eqb v 0)
irq_held e v t = (at (λ x. eqb (bit_of 6 x) 0 && eqb (bit_of 7 x) 0) 64 tt v (fits_irq (record { irq = v; released = e }) (may_fit e v t)), go e t)
  where
    go : (b : Bool) → T (may_hold b 0xFA v) → T (b || eqb v 0)
    go true u = tt
    go false u = rw (fits_zero (record { irq = v; released = false }) (may_fit false v u) refl) tt

module _ (s : List ℕ) (long : length s ≡ saved_length) (bytes : (i : ℕ) → byte s i < 256) (f : Facts s) where
  place_fits : (a : ℕ) → T (may_hold (is_set 0 (byte s 267)) a (byte s a))
  unfolding may_hold
  place_fits a =
      by_test T (is_hole a) (λ hole. rw (hole_empty s f.holes a hole) tt) (λ t.
      by_test T (eqb a 0xF1) (λ e. rw (eqb-true a 0xF1 e) f.tmr) (λ t.
      by_test T (eqb a 0xFA) (λ e. rw (eqb-true a 0xFA e) (may_fit _ _ (irq_holds _ _ (bytes 0xFA) f.irq f.mark))) (λ t.
      by_test T (eqb a 0xFD) (λ e. rw (eqb-true a 0xFD e) f.rp) (λ t. tt))))

  file_legal : LegalFile (is_set 0 (byte s 267)) (take 256 s)
  unfolding held_in
  file_legal =
      record {
        long = length-take-le 256 s (omega arith);
        bytes = λ a. each_front (λ v. v < 256) s 256 a (omega arith) (λ h. bytes a) (lit< tt);
        places = λ a. each_front (λ v. T (may_hold (is_set 0 (byte s 267)) a v)) s 256 a (omega arith) (λ h. place_fits a) (zero_may _ a);
      }

  -- a counter read from a byte is 1 to 256
  counter_range : (v : ℕ) → v < 256 → (0 < or_highest 256 v) × (or_highest 256 v ≤ 256)
  unfolding or_highest
  counter_range v h = (
    by_test (λ c. 0 < c) (eqb v 0) (λ t. lit< tt) (λ t. let n : v ≡ 0 → ⊥ = eqb-false v 0 t in omega arith),
    by_test (λ c. c ≤ 256) (eqb v 0) (λ t. lit≤ tt) (λ t. omega arith),
  )

  pub legal_loads : Legal (machine_of s)
  unfolding machine_of timer_of port_of moving_of
  legal_loads =
      let file = file_legal in
      let c0 = counter_range (byte s 260) (bytes 260) in
      let c1 = counter_range (byte s 262) (bytes 262) in
      record {
        file = file;
        pc_word = omega (arith, bytes 256, bytes 257);
        moving =
            record {
              divider_high = omega (arith, f.divider);
              counting0 =
                  record { prescaler_low = f.prescaler0_low; prescaler_high = f.prescaler0_high; counter_low = c0.0; counter_high = c0.1 };
              counting1 =
                  record { prescaler_low = f.prescaler1_low; prescaler_high = f.prescaler1_high; counter_low = c1.0; counter_high = c1.1 };
              requests_fit_lem = may_fit _ _ (file.places 0xFA);
              port_legal =
                  record {
                    legal_receiver = record { received_byte_lem = bytes 268; shift_byte = bytes 269; fits = f.receiver };
                    legal_transmitter = record { bits_byte = bytes 272; fits = f.transmitter };
                  };
            };
        last3_byte = bytes 263;
        kind = f.kind;
        cost = f.cost;
      }

  rest_back : rest_of (machine_of s) ≡ listed s 256 20
  unfolding rest_of machine_of timer_of port_of
  rest_back =
      rw (
        high_back (byte s 256) (byte s 257) (bytes 257),
        low_back (byte s 256) (byte s 257) (bytes 257),
        mod-eq_of_lt (bytes 258),
        mod-eq_of_lt (bytes 259),
        counter_back (byte s 260) (bytes 260),
        mod-eq_of_lt (bytes 261),
        counter_back (byte s 262) (bytes 262),
        level_back (byte s 264) f.tout,
        mark_back (byte s 267) f.mark_bits,
        f.port_spare,
      )

  pub saved_back : saved_of (machine_of s) ≡ s
  unfolding saved_of machine_of
  saved_back =
      ap (λ (l : List ℕ). take 256 s ++ l) (rest_back ∙ sym (rest_listed s 20 256 (sym long))) ∙ take-append-drop 256 s

-- ---- a legal machine, saved
module _ (m : Machine) (l : Legal m) where
  pub saved_long : length (saved_of m) ≡ saved_length
  unfolding saved_of rest_of
  saved_long = length-append m.regs (rest_of m) ∙ rw l.file.long

  -- its bytes: the file's, and then the rest's
  front : (i : ℕ) → i < 256 → byte (saved_of m) i ≡ held_in m.regs i
  unfolding saved_of held_in
  front i h = get_or-append m.regs (rest_of m) 0 i (rw l.file.long h)

  back : (i : ℕ) → byte (saved_of m) (256 + i) ≡ get_or (rest_of m) i 0
  unfolding saved_of
  back i = rw l.file.long at (get_or-append-add m.regs (rest_of m) i 0)

  -- the counts are bytes as they stand, but for a counter of 256
  low_of : (v : ℕ) → v ≤ 64 → low_byte v ≡ v
  low_of v h = mod-eq_of_lt (omega arith)

  file_back : take 256 (saved_of m) ≡ m.regs
  unfolding saved_of
  file_back = take_at m.regs (rest_of m) 256 l.file.long

  pub loads_back : machine_of (saved_of m) ≡ m
  unfolding machine_of timer_of port_of rest_of moving_of
  loads_back =
      rw (
        file_back,
        back 0,
        back 1,
        back 2,
        back 3,
        back 4,
        back 5,
        back 6,
        back 7,
        back 8,
        back 9,
        back 10,
        back 11,
        back 12,
        back 13,
        back 14,
        back 15,
        back 16,
        back 17,
        back 18,
        word_back m.pc,
        low_of m.divider (omega (arith, l.moving.divider_high)),
        low_of m.t0.prescaler l.moving.counting0.prescaler_high,
        low_of m.t1.prescaler l.moving.counting1.prescaler_high,
        counter_again m.t0.counter l.moving.counting0.counter_low l.moving.counting0.counter_high,
        counter_again m.t1.counter l.moving.counting1.counter_low l.moving.counting1.counter_high,
        level_again m.tout,
        mark_again m.released,
      )

  holes_saved : T (holes_empty (saved_of m))
  unfolding holes_empty
  holes_saved =
      zeros_from (saved_of m) 113 0x80
      (λ a h k. front a (omega arith) ∙ hole_holds m.released a (held_in m.regs a) h (omega arith) (l.file.places a))

  counts_saved : counts_fit (byte (saved_of m) 258) (byte (saved_of m) 259) (byte (saved_of m) 261) ≡ true
  unfolding counts_fit rest_of moving_of
  counts_saved =
      let c0 = l.moving.counting0 in
      let c1 = l.moving.counting1 in
      let divider_high : m.divider ≤ 3 = omega (arith, l.moving.divider_high) in
      rw (
        back 2,
        back 3,
        back 5,
        low_of m.divider (omega arith),
        low_of m.t0.prescaler c0.prescaler_high,
        low_of m.t1.prescaler c1.prescaler_high,
      )
      (grind (arith, nat_tests))

  level_fits : (b : Bool) → leb (one_if b) 1 ≡ true
  level_fits true = refl
  level_fits false = refl

  own_saved : own_fit (byte (saved_of m) 266) (byte (saved_of m) 264) (byte (saved_of m) 265) ≡ true
  unfolding own_fit rest_of
  own_saved = rw (back 10, back 8, back 9, passed _ l.cost, level_fits m.tout, passed _ l.kind)

  mark_saved : mark_fits (byte (saved_of m) 267) (byte (saved_of m) 0xFA) ≡ true
  unfolding mark_fits rest_of
  mark_saved =
      let irq = held_in m.regs 0xFA in
      rw (back 11, front 0xFA (lit< tt), mark_again m.released, level_fits m.released, passed _ (irq_held m.released irq (l.file.places 0xFA)).1)

  bits_saved : bits_clear (byte (saved_of m) 0xF1) (byte (saved_of m) 0xFA) (byte (saved_of m) 0xFD) ≡ true
  unfolding bits_clear may_hold
  bits_saved =
      let tmr = held_in m.regs 0xF1 in
      let irq = held_in m.regs 0xFA in
      let tmr_may : (eqb (bit_of 0 tmr) 0 && eqb (bit_of 2 tmr) 0) ≡ true = passed _ (l.file.places 0xF1) in
      let irq_may : (eqb (bit_of 6 irq) 0 && eqb (bit_of 7 irq) 0) ≡ true = passed _ (irq_held m.released irq (l.file.places 0xFA)).0 in
      let rp_may : eqb (lower (held_in m.regs 0xFD)) 0 ≡ true = passed _ (l.file.places 0xFD) in
      rw (front 0xF1 (lit< tt), front 0xFA (lit< tt), front 0xFD (lit< tt)) (grind (arith, nat_tests))

  port_saved : port_fits (port_of (saved_of m)) (byte (saved_of m) 275) ≡ true
  unfolding port_fits port_of rest_of moving_of
  port_saved =
      let legal = l.moving.port_legal in
      rw (back 12, back 13, back 14, back 15, back 16, back 17, back 18, back 19, passed _ legal.legal_receiver.fits, passed _ legal.legal_transmitter.fits)

  pub legal_saves : legal_of (saved_of m) ≡ true
  unfolding legal_of
  legal_saves = rw (counts_saved, own_saved, mark_saved, passed _ holes_saved, bits_saved, port_saved)

-- bytes that are not refused load to a legal machine, whose saved form they are
pub bytes_and_back : (s : List ℕ) → ((i : ℕ) → byte s i < 256) → refusal_of s ≡ 0
    → Legal (machine_of s) × (load_of s ≡ Ok (machine_of s)) × (saved_of (machine_of s) ≡ s)
unfolding load_of
bytes_and_back s bytes e =
    let long = loads_long s e in
    let f = facts s (loads_legal s e) in
    (legal_loads s long bytes f, rw (eq-eqb (length s) saved_length long, passed (legal_of s) (loads_legal s e)), saved_back s long bytes f)

pub loads_to_legal : (s : List ℕ) → ((i : ℕ) → byte s i < 256) → load_of s ≡ Ok (machine_of s) → Legal (machine_of s)
loads_to_legal s bytes e = (bytes_and_back s bytes (sym (load_refuses s) ∙ ap answered e)).0

-- and a legal machine's saved form is 276 bytes, is not refused and loads to it
pub machine_and_back : (m : Machine) → Legal m
    → (length (saved_of m) ≡ saved_length) × (refusal_of (saved_of m) ≡ 0) × (load_of (saved_of m) ≡ Ok m)
unfolding refusal_of load_of
machine_and_back m l =
    let long : eqb (length (saved_of m)) saved_length ≡ true = eq-eqb (length (saved_of m)) saved_length (saved_long m l) in
    let legal = legal_saves m l in
    (saved_long m l, rw (long, legal), rw (long, legal, loads_back m l))
