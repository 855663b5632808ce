use borrow.Author.Rules.{rules}
use mathlib.Core.Path.{◌≡◌, refl}
use native.Mathlib.Omega.{arith}
use Rattle.word.specs.Fields.{lower}
use Rattle.word.proofs.Computed.{last}
use Rattle.deeds.specs.Modes.{one_at, operands_of, from_register}
use Rattle.operands.specs.ForCode.{column_at}
use Rattle.operands.proofs.columns.operands.Goals as goal

pub returns-in-0 : goal.returns-in-0
unfolding column_at operands_of from_register one_at
returns-in-0 c = record { value = rw (c.register-dst.ensures, c.in-0.is) refl; next = rw c.in-0.is c.at.ensures }

pub returns-in-1 : goal.returns-in-1
unfolding column_at operands_of from_register one_at
returns-in-1 c = record { value = rw (c.indirect-dst.ensures, c.in-1.is) refl; next = rw c.in-1.is c.at-in-1.ensures }

pub returns-in-2 : goal.returns-in-2
unfolding column_at operands_of from_register one_at
returns-in-2 c =
    let is = c.in-2.is in
    record { value = rw (c.read-src.ensures, c.working-a.ensures, c.working-dst.ensures, is) refl; next = rw is c.at-in-2.ensures }

pub returns-in-3 : goal.returns-in-3
unfolding column_at operands_of from_register one_at
returns-in-3 c =
    let is = c.in-3.is in
    record { value = rw (c.read-src-in-3.ensures, c.working_indirect-a.ensures, c.working-dst-in-3.ensures, is) refl; next = rw is c.at-in-3.ensures }

pub returns-in-4 : goal.returns-in-4
unfolding column_at operands_of from_register one_at
returns-in-4 c =
    let is = c.in-4.is in
    record { value = rw (c.read-src-in-4.ensures, c.register-a.ensures, c.register-dst-in-4.ensures, is) refl; next = rw is c.at-in-4.ensures }

pub returns-in-5 : goal.returns-in-5
unfolding column_at operands_of from_register one_at
returns-in-5 c =
    let is = c.in-5.is in
    record { value = rw (c.read-src-in-5.ensures, c.indirect-a.ensures, c.register-dst-in-5.ensures, is) refl; next = rw is c.at-in-5.ensures }

pub returns-in-6 : goal.returns-in-6
unfolding column_at operands_of from_register one_at
returns-in-6 c = record { value = rw (c.register-dst-in-6.ensures, c.in-6.is) refl; next = rw c.in-6.is c.at-in-6.ensures }

pub returns-in-7 : goal.returns-in-7
unfolding column_at operands_of from_register one_at
returns-in-7 c = record { value = rw (c.indirect-dst-in-7.ensures, c.in-7.is) refl; next = rw c.in-7.is c.at-in-7.ensures }

pub returns-in-8 : goal.returns-in-8
unfolding column_at operands_of from_register one_at
returns-in-8 c =
    let is = c.in-8.is in
    record { value = rw (c.read-src-in-8.ensures, c.register-a-in-8.ensures, c.working-dst-in-8.ensures, is) refl; next = rw is c.at-in-8.ensures }

pub returns-in-9 : goal.returns-in-9
unfolding column_at operands_of from_register one_at
returns-in-9 c =
    let is = c.in-9.is in
    record { value = rw (c.read-src-in-9.ensures, c.working-a-in-9.ensures, c.register-dst-in-9.ensures, is) refl; next = rw is c.at-in-9.ensures }

pub returns-in-10 : goal.returns-in-10
unfolding column_at operands_of from_register one_at
returns-in-10 c = record { value = rw (c.working-dst-in-10.ensures, c.in-10.is) refl; next = rw c.in-10.is c.at-in-10.ensures }

pub returns-in-11 : goal.returns-in-11
unfolding column_at operands_of from_register one_at
returns-in-11 c = record { value = rw c.in-11.is refl; next = rw c.in-11.is c.at-in-11.ensures }

pub returns-in-12 : goal.returns-in-12
unfolding column_at operands_of from_register one_at
returns-in-12 c = record { value = rw (c.working-dst-in-12.ensures, c.in-12.is) refl; next = rw c.in-12.is c.at-in-12.ensures }

pub returns-in-13 : goal.returns-in-13
unfolding column_at operands_of from_register one_at
returns-in-13 c = record { value = rw c.in-13.is refl; next = rw c.in-13.is c.at-in-13.ensures }

pub returns-in-14 : goal.returns-in-14
unfolding column_at operands_of from_register one_at
returns-in-14 c = record { value = rw (c.working-dst-in-14.ensures, c.in-14.is) refl; next = rw c.in-14.is c.at-in-14.ensures }

pub returns-in_default : goal.returns-in_default
unfolding column_at operands_of from_register one_at
returns-in_default c =
    let low = lower c.args.i.op in
    let is : low ≡ 15 = last 0 15 low (omega arith) (search rules) c.in_default.in_default-own.rest in
    record { value = rw is refl; next = rw is c.at-in_default.ensures }
