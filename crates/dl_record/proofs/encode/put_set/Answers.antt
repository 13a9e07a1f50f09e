use Rattle.std.proofs.lemmas.Result.{err_from_is_err_and}
use Rattle.dl_record.proofs.Sizes.{front_kept, front_added}
use Rattle.dl_record.proofs.encode.put_set.Goals as goal

pub returns-in_err-put_members-clause-err : goal.returns-in_err-put_members-clause-err
returns-in_err-put_members-clause-err c =
    let p = err_from_is_err_and c.from_residual-in_err-put_members.result c.from_residual-in_err-put_members.ensures.1 in
    let a = c.put_fields.new.out.items in
    let b = c.put_u8.new.out.items in
    let d = c.put_u8-2.new.out.items in
    let e = c.put_u16.new.out.items in
    rw p.1 (front_kept _ a _ (front_added _ _ a c.in_ok-put_fields.ensures.ok)
    (front_kept a b _ (front_added a _ b c.in_ok-put_u8.ensures.ok)
    (front_kept b d _ (front_added b _ d c.in_ok-put_u8-2.ensures.ok)
    (front_kept d e _ (front_added d _ e c.in_ok-put_u16.ensures.ok) c.in_err-put_members.ensures.err))))
