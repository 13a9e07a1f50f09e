use Rattle.std.proofs.Common.{Ok, inl, inr, refl, ap, arith}
use Rattle.dl_msg.proofs.MsgLemmas.{is_found, is_same, is_refused}
use Rattle.dl_msg.proofs.decode.decode.Goals as goal

pub returns-in-Ok-clause-found : goal.returns-in-Ok-clause-found
returns-in-Ok-clause-found c = is_found c.args.bytes.now c.in-Ok.msg (λ i. omega (arith, c.type_inv.bytes i)) c.in-Ok.ensures

pub returns-in-Ok-clause-only : goal.returns-in-Ok-clause-only
returns-in-Ok-clause-only c = λ m valid spelt. inl (ap (λ x. Ok x) (is_same c.args.bytes.now m c.in-Ok.msg c.in-Ok.ensures valid spelt))

pub returns-in-Err-NoMemory-clause-only : goal.returns-in-Err-NoMemory-clause-only
returns-in-Err-NoMemory-clause-only c = λ m valid spelt. inr refl

pub returns-in-Err-NoMemory-clause-refused : goal.returns-in-Err-NoMemory-clause-refused
returns-in-Err-NoMemory-clause-refused c = inl refl

pub returns-in-Err-Fault-clause-only : goal.returns-in-Err-Fault-clause-only
returns-in-Err-Fault-clause-only c =
    λ m valid spelt. absurd (is_refused c.args.bytes.now c.in-Err-Fault.fault (rw c.in-Err-Fault.field-0-is at c.in-Err-Fault.ensures) m valid spelt)

pub returns-in-Err-Fault-clause-refused : goal.returns-in-Err-Fault-clause-refused
returns-in-Err-Fault-clause-refused c =
    let read = rw c.in-Err-Fault.field-0-is at c.in-Err-Fault.ensures in
    inr (record { first = c.in-Err-Fault.fault; read = read; place = c.fault_at.ensures; none = is_refused c.args.bytes.now c.in-Err-Fault.fault read })
