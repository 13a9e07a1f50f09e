use Rattle.std.proofs.Common.{◌≡◌, List, Option, Some, None, is_some, sym, ap, ◌∙◌, subst, refl}
use Rattle.dl_links.specs.declared.file.File.{File}
use Rattle.dl_links.specs.declared.filed.Filed.{Filed}
use Rattle.dl_links.specs.declared.files.Files.TheInside.{Inside}
use Rattle.dl_links.specs.Waiting.{first_waiting, AreGone}
use Rattle.dl_links.specs.Tables.{places_of, gone_of, Passes}
use Rattle.dl_links.proofs.TableLemmas.{found, written, passes_written}
use Rattle.dl_links.proofs.files.Files.first_waiting.Goals as goal
use Rattle.dl_links.proofs.files.Files.first_waiting.Goals.{in-Some, in-None}

pub first_waiting-requires : goal.first_waiting-requires
first_waiting-requires c =
    subst (λ (o : Option Filed). AreGone c.args.delivered.now (places_of o) (gone_of o))
    (found c.self.inside.map.entries c.args.self.now c.args.file (Some c.in-Some.filed.now) c.self.view_is c.in-Some.ensures.value) c.requires

pub returns-clause-first : goal.returns-clause-first
returns-clause-first c =
    elim c.match-get_mut.branch [
      | in-Some w ↦
          w.result-is ∙ w.first_waiting.ensures.first ∙ sym (ap (λ (o : Option Filed). first_waiting c.args.delivered.now (places_of o))
          (found c.self.inside.map.entries c.args.self.now c.args.file (Some w.in-Some.filed.now) c.self.view_is w.in-Some.ensures.value))
      | in-None w ↦
          w.result-is ∙ sym (ap (λ (o : Option Filed). first_waiting c.args.delivered.now (places_of o))
          (found c.self.inside.map.entries c.args.self.now c.args.file None c.self.view_is w.in-None.ensures.value))
    ]

pub returns-clause-passes : goal.returns-clause-passes
returns-clause-passes c =
    elim c.match-get_mut.branch [
      | in-Some w ↦
          let now : Filed = w.first_waiting.new.self in
          let entries : List (File × Filed) = (c.get_mut.follows.lender now).entries in
          subst (λ (s : Inside). Passes c.args.delivered.now c.args.self.now s.map.entries) (sym w.self-inside-is)
          (passes_written c.args.delivered.now c.args.self.now entries c.args.file w.in-Some.filed.now now
          (written c.self.inside.map.entries entries c.args.self.now c.args.file (Some w.in-Some.filed.now) (Some now) c.self.view_is
          w.in-Some.ensures.value (((c.get_mut.follows.holds now).3 (ap is_some (sym w.in-Some.ensures.value))).0))
          (ap (λ v. v.items) w.first_waiting.ensures.places) w.first_waiting.ensures.gone)
      | in-None w ↦
          let same : c.match-get_mut.self-inside.map.entries ≡ c.args.self.now =
          ap (λ (s : Inside). s.map.entries) w.self-inside-is ∙ ap (λ m. m.entries) c.get_mut.follows.holds-at-none ∙ c.self.view_is in
          subst (λ (es : List (File × Filed)). Passes c.args.delivered.now c.args.self.now es) (sym same)
          (record { places = λ f. refl; gone = λ f before. before })
    ]
