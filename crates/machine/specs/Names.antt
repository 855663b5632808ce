-- The control registers F0 to FF under the manual's names (002, R240 to R255; 004, 3.2).
use Rattle.std.specs.Prelude.{ℕ}

abbrev pub SIO : ℕ
SIO = 0xF0

abbrev pub TMR : ℕ
TMR = 0xF1

abbrev pub T1 : ℕ
T1 = 0xF2

abbrev pub PRE1 : ℕ
PRE1 = 0xF3

abbrev pub T0 : ℕ
T0 = 0xF4

abbrev pub PRE0 : ℕ
PRE0 = 0xF5

abbrev pub P2M : ℕ
P2M = 0xF6

abbrev pub P3M : ℕ
P3M = 0xF7

abbrev pub P01M : ℕ
P01M = 0xF8

abbrev pub IPR : ℕ
IPR = 0xF9

abbrev pub IRQ : ℕ
IRQ = 0xFA

abbrev pub IMR : ℕ
IMR = 0xFB

abbrev pub FLAGS : ℕ
FLAGS = 0xFC

abbrev pub RP : ℕ
RP = 0xFD

abbrev pub SPH : ℕ
SPH = 0xFE

abbrev pub SPL : ℕ
SPL = 0xFF
