use Rattle.std.proofs.Common.{◌≡◌, Bool, List, [], ◌∷◌, ◌++◌, false, length, ap, sym, ◌∙◌, subst}
use Rattle.dl_msg.specs.declared.letter.Letter.{Letter}
use Rattle.dl_links.specs.Keeping.{AreKept}
use Rattle.dl_links.proofs.KeptLemmas.{kept_stays, kept_letter}
use Rattle.dl_links.proofs.links.Links.send.Goals as goal

pub invariant_of-self-in_err-put : goal.invariant_of-self-in_err-put
invariant_of-self-in_err-put c =
    let kept : AreKept c.self.inside.letters.items c.self.inside.delivered.items c.put.new.self =
    kept_stays c.self.inside.letters.items c.self.inside.delivered.items c.self.inside.files c.put.new.self c.self.invariant c.in_err-put.ensures.err in
    subst (λ (ls : List Letter). AreKept ls c.reserve-2.new.self.items c.put.new.self) (sym c.reserve.ensures.items)
    (subst (λ (ds : List Bool). AreKept c.self.inside.letters.items ds c.put.new.self) (sym c.reserve-2.ensures.items) kept)

pub invariant_of-self-2 : goal.invariant_of-self-2
invariant_of-self-2 c =
    let last : c.len-place.result ≡ length c.self.inside.letters.items =
    c.len-place.ensures ∙ c.reserve.new.self.ok.0 ∙ ap length c.reserve.ensures.items in
    let kept : AreKept (c.self.inside.letters.items ++ c.args.letter ∷ []) (c.self.inside.delivered.items ++ false ∷ []) c.put.new.self =
    kept_letter c.self.inside.letters.items c.self.inside.delivered.items c.self.inside.files c.put.new.self c.args.letter c.len-place.result
    c.self.invariant last c.in_ok-put.ensures.ok in
    subst (λ (ls : List Letter). AreKept ls c.push_reserved-2.new.self.items c.put.new.self)
    (sym (c.push_reserved.ensures.items ∙ ap (λ (ls : List Letter). ls ++ c.args.letter ∷ []) c.reserve.ensures.items))
    (subst (λ (ds : List Bool). AreKept (c.self.inside.letters.items ++ c.args.letter ∷ []) ds c.put.new.self)
    (sym (c.push_reserved-2.ensures.items ∙ ap (λ (ds : List Bool). ds ++ false ∷ []) c.reserve-2.ensures.items)) kept)
