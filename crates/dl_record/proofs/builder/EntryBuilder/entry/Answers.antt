use Rattle.std.proofs.Common.{ℕ, ◌-◌, List, ◌++◌, length, drop, ap, subst, ◌∙◌}
use Rattle.dl_codec.specs.Fields.{IsBytes}
use Rattle.dl_record.specs.Grammar.{header_bytes}
use Rattle.dl_record.proofs.BuildingLaws.{finished}
use Rattle.dl_record.proofs.builder.EntryBuilder.entry.Goals as goal

pub returns-in_err-entry-clause-entry : goal.returns-in_err-entry-clause-entry
returns-in_err-entry-clause-entry c =
    (finished _ c.self.inside.rows _ _ (subst IsBytes c.deref.ensures.value c.copy_entry.ensures.bytes) c.self.invariant c.self.view_is c.requires).is

pub returns-clause-bytes : goal.returns-clause-bytes
returns-clause-bytes c =
    c.in_ok-entry.ensures.entry
    ∙ ap (λ (l : List ℕ). header_bytes c.self.inside.count (length l - 8) ++ drop 8 l) c.deref.ensures.value
    ∙ (finished _ c.self.inside.rows _ _ (subst IsBytes c.deref.ensures.value c.copy_entry.ensures.bytes) c.self.invariant c.self.view_is c.requires).spelt

pub returns-clause-entry : goal.returns-clause-entry
returns-clause-entry c =
    (finished _ c.self.inside.rows _ _ (subst IsBytes c.deref.ensures.value c.copy_entry.ensures.bytes) c.self.invariant c.self.view_is c.requires).is
