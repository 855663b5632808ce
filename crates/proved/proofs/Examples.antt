-- 01's examples hold, all together, computed from the definitions.
use mathlib.Core.Path.{◌≡◌, refl, ap, ◌∙◌}
use lib.Dec.{T}
use lib.ListN.{length}
use Prim.Native.Nat.{ℕ, ◌+◌, ◌/◌, ◌<◌}
use native.Mathlib.Nat.{add-zero}
use native.Mathlib.Omega.{arith}
use Rattle.numbers.specs.Numbers.{file_length}
use Rattle.word.specs.Words.{disp_of, moved_by}
use Rattle.alu.specs.FlagByte.{laid, packed}
use Rattle.alu.specs.Arithmetic.{add_of, addition_of, sub_of, subtraction_of, difference_of, inc_of, decw_of, sum_overflow, difference_overflow}
use Rattle.alu.specs.Logical.{and_of, logic_flags}
use Rattle.alu.specs.Rotate.{rl_of, sra_of, rotate_flags}
use Rattle.alu.specs.Decimal.{da_of, by_rows, adjusted_by, after_addition, after_subtraction}
use Rattle.alu.specs.Conditions.{holds_of}
use Rattle.word.specs.Iter.{iter}
use Rattle.timers.specs.Requests.{latch, latched_if, requests_fit}
use Rattle.timers.specs.Control.{or_highest, setup_of, divider_moves_t1, edges_move_t1, mode_of, setting_of, kept}
use Rattle.timers.specs.Timer.{tick, ticked, timer_written}
use Rattle.timers.specs.Clock.{end_of, end0_of, tick_both, cycle, cycles, tout_written, written, T0, Steady, LegalMoving}
use Rattle.timers.proofs.Formula.{formula_by_registers}
use Rattle.opcodes.specs.Map.{entry_of, opcode_map}
use Rattle.opcodes.specs.Instruction.{length_of}
use Rattle.opcodes.specs.Cycles.{cycles_of, cycle_map}
use Rattle.machine.specs.Names.{TMR}
use Rattle.machine.specs.State.{held_in, placed_in, held, placed, with_pc, with_last3, with_released, with_port}
use Rattle.machine.specs.Serial.{port_mode}
use Rattle.machine.specs.Registers.{read_reg, write_irq, write_reg}
use Rattle.machine.specs.Addresses.{working_at, register_at, read_pair, write_pair}
use Rattle.machine.specs.Memory.{program_byte}
use Rattle.machine.specs.Stack.{pushed, pushed_internal}
use Rattle.machine.specs.Clock.{Ran, control_with, control_of, moving_of, enabling, counts_at, moved_to, write_tmr, seen, shown, cycle_of, span_of}
use Rattle.machine.specs.Start.{reset_places, new_of, default_of}
use Rattle.machine.specs.declared.Machine.{Machine}
use Rattle.machine.proofs.Lens.{span_is}
use Rattle.machine.proofs.Legal.{resting_legal}
use Rattle.deeds.specs.Modes.{one_at, operands_of}
use Rattle.deeds.specs.Results.{binary_of, unary_of, paired_of}
use Rattle.deeds.specs.Pages.{binary_deed, unary_deed, ld_deed, adjust_deed, da_deed, paired_deed, djnz_deed, jr_deed, deed_of, outcome_of}
use Rattle.execute.specs.Doing.{flagged, stored_at, word_stored_at, transferred, jumped, looped, interrupts_to, interrupts_enabled, done_of}
use Rattle.execute.specs.Execute.{code_at, perform_of, execute_as, execute_of}
use Rattle.interrupts.specs.Edges.{fell, latched_by, started_by, moved_by_edges, compared_of}
use Rattle.interrupts.specs.Grants.{group_a, group_b, group_c, ordered, priorities, first_standing, granted, grant_of}
use Rattle.interrupts.specs.Entry.{cleared, vector_of, acknowledged, entered_of}
use Rattle.step.specs.Step.{granted_or, act_on, action_of, clocked_on, step_of}
use Rattle.proved.specs.Examples.{all, examples, fresh_load, ends_in}

-- Cycles of a machine are cycles of what they move, and these are computed one by one.
module _ (divider pre0 t0 : ℕ) where
  abbrev loaded : Machine
  loaded = fresh_load divider pre0 t0

  long : length loaded.regs ≡ file_length
  unfolding write_tmr counts_at placed placed_in reset_places new_of default_of
  long = refl

  tmr_byte : held loaded TMR < 256
  unfolding write_tmr counts_at kept held_in placed placed_in reset_places new_of default_of
  tmr_byte = omega arith

  ends_are : (n : ℕ) → ends_in divider pre0 t0 n ≡ (cycles (setting_of (control_of loaded)) n (moving_of loaded)).ends0
  unfolding ends_in shown
  ends_are n = ap (λ (r : Ran). r.ends0) (span_is loaded long tmr_byte n)

pub examples_hold : T (all examples)
unfolding examples
    laid packed add_of addition_of sub_of subtraction_of difference_of inc_of decw_of sum_overflow difference_overflow and_of logic_flags
    rl_of sra_of rotate_flags da_of by_rows adjusted_by after_addition after_subtraction holds_of disp_of moved_by
    iter latch or_highest setup_of divider_moves_t1 edges_move_t1 mode_of setting_of kept tick ticked timer_written end_of end0_of tick_both cycle cycles
    tout_written written
    entry_of opcode_map length_of cycles_of cycle_map
    held_in placed_in placed with_pc with_last3 reset_places new_of default_of read_reg write_reg write_irq working_at register_at read_pair write_pair
    program_byte pushed pushed_internal
    control_with control_of moving_of enabling counts_at with_released with_port moved_to write_tmr seen shown cycle_of span_of
    one_at operands_of binary_of unary_of paired_of binary_deed unary_deed ld_deed adjust_deed da_deed paired_deed djnz_deed jr_deed deed_of outcome_of
    flagged stored_at word_stored_at transferred jumped looped interrupts_to interrupts_enabled done_of code_at perform_of execute_as execute_of
    fell latched_if latched_by port_mode started_by moved_by_edges compared_of group_a group_b group_c ordered priorities first_standing granted grant_of
    cleared vector_of acknowledged entered_of granted_or act_on action_of clocked_on step_of
examples_hold =
    rw (
      ends_are 0 0x0D 0x02 23,
      ends_are 0 0x0D 0x02 24,
      ends_are 0 0x0D 0x02 48,
      ends_are 0 0x01 0x00 65535,
      ends_are 0 0x01 0x00 65536,
    ) tt

-- P 1, N 1, fresh load: by the formula, as the longest span is too long to be computed cycle by cycle
module _ (divider : ℕ) (low : divider < 4) where
  abbrev quickest : Machine
  quickest = fresh_load divider 0x05 0x01

  legal : LegalMoving (moving_of quickest)
  unfolding moving_of write_tmr counts_at written timer_written kept control_with held_in placed placed_in reset_places new_of default_of or_highest setup_of setting_of requests_fit
  legal = record { divider_high = low; counting0 = omega arith; counting1 = omega arith; requests_fit_lem = tt; port_legal = resting_legal }

  steady : Steady (setting_of (control_of quickest)).t0 (moving_of quickest).t0
  unfolding moving_of control_of write_tmr counts_at written timer_written kept control_with held_in placed placed_in reset_places new_of default_of or_highest setup_of setting_of
  steady = record { clocked = refl; enabled = refl; repeating = refl; prescaler_within = omega arith; counter_within = omega arith }

  ends_of_the_quickest : (n : ℕ) → ends_in divider 0x05 0x01 n ≡ (n + divider) / 4
  unfolding moving_of control_of write_tmr counts_at written timer_written kept control_with held_in placed placed_in reset_places new_of default_of or_highest setup_of setting_of
  ends_of_the_quickest n =
      ends_are divider 0x05 0x01 n
      ∙ formula_by_registers (control_of quickest) (moving_of quickest) (omega arith) legal T0 n steady
      ∙ ap (λ (x : ℕ). (n + x) / 4) (add-zero divider)

pub longest_span : (ends_in 0 0x05 0x01 4294967295 ≡ 1073741823) × (ends_in 1 0x05 0x01 4294967295 ≡ 1073741824)
longest_span = (ends_of_the_quickest 0 (omega arith) 4294967295, ends_of_the_quickest 1 (omega arith) 4294967295)
