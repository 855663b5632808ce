use borrow.Author.Rules.{rules}
use Rattle.opcodes.specs.Map.{entry_of, opcode_map}
use Rattle.machine.specs.declared.Machine.{Machine}
use Rattle.machine.specs.State.{with_pc}
use Rattle.machine.specs.Memory.{stored_in}
use Rattle.operands.proofs.Arms.{blank_is_refused}
use Rattle.singles.proofs.Arms.{Ready, lde_in, ldei_in, lde_out, ldei_out, ldc_in, ldci_in, ld_from_index, ldc_out, ldci_out, ld_to_index, ld_ind_work, ld_ind_reg, call_direct_arm, call_pair_arm, single_blank}
use Rattle.singles.proofs.singles.Goals as goal
use Rattle.singles.proofs.singles.Goals.{After-read_pair-pointed, Start}

-- before the match: the start, and what the three reads gave
module _ (s : After-read_pair-pointed) where
  abbrev given : Machine
  given = s.args.m.now

  ready : Ready s.args.pins given s.args.pc s.args.i s.working-r.result s.working-x.result s.read_pair-pointed.result
  ready = record { asked = s.requires; register = s.working-r.ensures; pair = s.working-x.ensures; pointed = s.read_pair-pointed.ensures }

pub returns-in-130 : goal.returns-in-130
returns-in-130 c =
    rw (c.write.ensures, c.load-v.ensures) (lde_in _ _ (ready (goal.at.returns-in-130 c).After-read_pair-pointed) c.in-130.is)

pub returns-in-131 : goal.returns-in-131
returns-in-131 c =
    rw (c.block.ensures, c.load-v-in-131.ensures, c.read-to.ensures) (ldei_in _ _ (ready (goal.at.returns-in-131 c).After-read_pair-pointed) c.in-131.is)

pub returns-in-146 : goal.returns-in-146
unfolding stored_in
returns-in-146 c =
    rw (c.store_byte.ensures, c.read-v.ensures) (lde_out _ _ (ready (goal.at.returns-in-146 c).After-read_pair-pointed) c.in-146.is)

pub returns-in-147 : goal.returns-in-147
unfolding stored_in
returns-in-147 c =
    rw (c.count_up.ensures, c.store_byte-in-147.ensures, c.read-v-in-147.ensures, c.read.ensures) (ldei_out _ _ (ready (goal.at.returns-in-147 c).After-read_pair-pointed) c.in-147.is)

pub returns-in-194 : goal.returns-in-194
returns-in-194 c =
    rw (c.write-in-194.ensures, c.program-v.ensures) (ldc_in _ _ (ready (goal.at.returns-in-194 c).After-read_pair-pointed) c.in-194.is)

pub returns-in-195 : goal.returns-in-195
returns-in-195 c =
    rw (c.block-in-195.ensures, c.program-v-in-195.ensures, c.read-to-in-195.ensures) (ldci_in _ _ (ready (goal.at.returns-in-195 c).After-read_pair-pointed) c.in-195.is)

pub returns-in-199 : goal.returns-in-199
returns-in-199 c =
    rw (c.write-in-199.ensures, c.read-v-in-199.ensures, c.indexed-a.ensures) (ld_from_index _ _ (ready (goal.at.returns-in-199 c).After-read_pair-pointed) c.in-199.is)

pub returns-in-210 : goal.returns-in-210
returns-in-210 c =
    ldc_out _ _ (ready (goal.at.returns-in-210 c).After-read_pair-pointed) c.in-210.is

pub returns-in-211 : goal.returns-in-211
returns-in-211 c =
    rw c.count_up-in-211.ensures (ldci_out _ _ (ready (goal.at.returns-in-211 c).After-read_pair-pointed) c.in-211.is)

pub returns-in-212 : goal.returns-in-212
unfolding with_pc
returns-in-212 c =
    let left = rw (c.read_pair-to.ensures, c.register.ensures) at c.call.ensures in
    call_pair_arm _ _ (ready (goal.at.returns-in-212 c).After-read_pair-pointed) c.in-212.is _ _ (rw c.plus-m.ensures) left

pub returns-in-214 : goal.returns-in-214
returns-in-214 c =
    call_direct_arm _ _ (ready (goal.at.returns-in-214 c).After-read_pair-pointed) c.in-214.is _ (rw c.word.ensures at c.call-in-214.ensures)

pub returns-in-215 : goal.returns-in-215
returns-in-215 c =
    rw (c.write-in-215.ensures, c.read-v-in-215.ensures, c.indexed-a-in-215.ensures) (ld_to_index _ _ (ready (goal.at.returns-in-215 c).After-read_pair-pointed) c.in-215.is)

pub returns-in-243 : goal.returns-in-243
returns-in-243 c =
    rw (c.write-in-243.ensures, c.read-v-in-243.ensures, c.read-in-243.ensures) (ld_ind_work _ _ (ready (goal.at.returns-in-243 c).After-read_pair-pointed) c.in-243.is)

pub returns-in-245 : goal.returns-in-245
returns-in-245 c =
    rw (c.write-in-245.ensures, c.indirect-to.ensures, c.read-v-in-245.ensures, c.register-in-245.ensures) (ld_ind_reg _ _ (ready (goal.at.returns-in-245 c).After-read_pair-pointed) c.in-245.is)

pub returns-in_default : goal.returns-in_default
unfolding entry_of opcode_map
returns-in_default c =
    let begun = (goal.at.returns-in_default c).Start in
    rw (c.refused.ensures.value, c.refused.ensures.back)
    (blank_is_refused _ _ _ _ _ _ (single_blank begun.args.i.op (search rules) begun.requires.low begun.requires.high begun.requires.row c.in_default.in_default-own.rest))
