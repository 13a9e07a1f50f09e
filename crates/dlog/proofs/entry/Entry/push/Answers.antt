use Rattle.std.proofs.Common.{◌+◌, ◌++◌, ◌∷◌, [], List, ℕ, length, ap, sym, subst, arith}
use Rattle.dlog.specs.declared.entry.Head.{Head}
use Rattle.dlog.specs.Machine.{entry_size, record_size}
use Rattle.dlog.specs.Entries.{IsPacked}
use Rattle.dlog.proofs.EntryLemmas.{packed_more}
use Rattle.dlog.proofs.entry.Entry.push.Goals as goal

pub invariant_of-self-2 : goal.invariant_of-self-2
invariant_of-self-2 c =
    let size : ℕ = c.self.inside.size + record_size (length c.args.payload.now) in
    let more : List Head = c.self.inside.heads.items ++ c.args.head ∷ [] in
    subst (λ (heads : List Head). IsPacked size heads c.add.new.payloads.items) (sym c.in_ok-add.ensures.heads)
    (subst (λ (bytes : List ℕ). IsPacked size more bytes) (sym c.in_ok-add.ensures.payloads)
    (packed_more c.self.inside.size c.self.inside.heads.items c.self.inside.payloads.items c.args.head c.args.payload.now c.self.invariant
    c.requires.length (omega (arith, ap entry_size c.self.view_is, c.requires.room))))
