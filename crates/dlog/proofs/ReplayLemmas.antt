-- What a run takes from its source and gives to its sink.
use Rattle.std.proofs.Common.{◌≡◌, ℕ, List, [], ◌++◌, Option, Some, None, refl, sym, ap, ◌∙◌, subst, append_assoc}
use Rattle.std.specs.Prelude.{unwrap_or, MatchOption}
use Rattle.std.specs.Io.KnownBytes.{Consumes, Appends, IsAtEnd, Keeps}
use Rattle.std.proofs.lemmas.List.{append-nil}
use Rattle.dl_io.specs.Causes.{Rose}
use Rattle.dl_io.specs.Sources.{HasFault}
use Rattle.dl_io.specs.Sinks.{FinishesAll, GivesFront}
use Rattle.dl_io.specs.Views.{SourceView, SinkView}
use Rattle.dl_io.proofs.Pieces.{consumes_nothing, consumes_more, consumes_kept, appends_nothing}
use Rattle.dl_types.specs.declared.status.Status.{Status}
use Rattle.dl_types.specs.declared.status.Status.TheVariants as status
use Rattle.dlog.specs.declared.ended.Ended.{Ended}
use Rattle.dlog.specs.declared.ended.Ended.TheVariants.{Done, BadLine, Limit}
use Rattle.dlog.specs.Run.{Outcome, run}
use Rattle.dlog.specs.RunStates.{RunState, new_run, IsStop, Feeds, ends_as, outcome_at}
use Rattle.dlog.specs.Answers.{Decides, ReadsOn, ReadsToEnd, ReadsFront, RunsTo, PrintsLegal, end_of, CutShort, CameTo, Replays, status_of}
use Rattle.dlog.proofs.Legality.{every_run}

-- reading

-- nothing was read
pub reads_nothing : (a : SourceView) (p : RunState) → ReadsOn a a p p
reads_nothing a p = record { taken = []; consumed = consumes_nothing a.left; same = λ more. refl }

-- a further piece was read
pub reads_more : (a b c : SourceView) (old mid new : RunState) (piece : List ℕ) → ReadsOn a b old mid → Consumes b.left c.left piece → Feeds mid new piece None
    → ReadsOn a c old new
reads_more a b c old mid new piece t k f = record {
  taken = t.taken ++ piece;
  consumed = consumes_more a.left b.left c.left t.taken piece t.consumed k;
  same = λ more. ap (ends_as old) (append_assoc t.taken piece more) ∙ t.same (piece ++ more) ∙ f more;
}

-- a piece came to the stop
pub reads_to_stop : (a b c : SourceView) (old mid new : RunState) (piece : List ℕ) (ended : Ended) → ReadsOn a b old mid → Consumes b.left c.left piece
    → Feeds mid new piece (Some ended) → ReadsToEnd a c old new ended
reads_to_stop a b c old mid new piece ended t k f = record {
  taken = t.taken ++ piece;
  consumed = consumes_more a.left b.left c.left t.taken piece t.consumed k;
  decides = Decides.whatever (λ more. ap (ends_as old) (append_assoc t.taken piece more) ∙ t.same (piece ++ more) ∙ f.1 more);
  all = λ e. absurd (subst IsStop e f.0);
}

-- the input came to its end
pub reads_to_end : (a b c : SourceView) (old mid new : RunState) (ended : Ended) → ReadsOn a b old mid → Consumes b.left c.left [] → IsAtEnd c.left
    → ends_as mid [] ≡ outcome_at new ended → ReadsToEnd a c old new ended
reads_to_end a b c old mid new ended t k done e = record {
  taken = t.taken ++ [];
  consumed = consumes_more a.left b.left c.left t.taken [] t.consumed k;
  decides = Decides.at_end done (t.same [] ∙ e);
  all = λ _. done;
}

-- some bytes were taken, a further piece too
pub front_more : (a b c : SourceView) (old mid : RunState) (piece : List ℕ) → ReadsOn a b old mid → Consumes b.left c.left piece → ReadsFront a c
front_more a b c old mid piece t k = record { taken = t.taken ++ piece; consumed = consumes_more a.left b.left c.left t.taken piece t.consumed k }

-- some bytes were taken, and then none
pub front_kept : (a b c : SourceView) (old mid : RunState) → ReadsOn a b old mid → Keeps b.left c.left → ReadsFront a c
front_kept a b c old mid t k = record { taken = t.taken; consumed = consumes_kept a.left b.left c.left t.taken t.consumed k }

-- no bytes were taken
pub front_nothing : (a : SourceView) → ReadsFront a a
front_nothing a = record { taken = []; consumed = consumes_nothing a.left }

-- what is left, and none where it isn't told
abbrev rest_of : Option (List ℕ) → List ℕ
rest_of left = unwrap_or left []

-- it is what the source has left
rest_is : (left : Option (List ℕ)) → MatchOption left (rest_of left ≡ []) (λ bytes. bytes ≡ rest_of left)
rest_is None = refl
rest_is (Some bytes) = refl

-- at the end nothing is left
rest_at_end : (left : Option (List ℕ)) → IsAtEnd left → rest_of left ≡ []
rest_at_end None done = refl
rest_at_end (Some bytes) done = done

-- what is decided holds of all
decided : (left : Option (List ℕ)) (taken : List ℕ) (P : List ℕ → Type 0) → Decides left taken P → P (taken ++ rest_of left)
decided left taken P (Decides.at_end done p) = subst P (sym (ap (λ t. taken ++ t) (rest_at_end left done) ∙ append-nil taken)) p
decided left taken P (Decides.whatever each) = each (rest_of left)

-- and so does what follows from it
decides_to : (left : Option (List ℕ)) (taken : List ℕ) (P Q : List ℕ → Type 0) → ((text : List ℕ) → P text → Q text) → Decides left taken P
    → Decides left taken Q
decides_to left taken P Q step (Decides.at_end done p) = Decides.at_end done (step taken p)
decides_to left taken P Q step (Decides.whatever each) = Decides.whatever (λ more. step (taken ++ more) (each more))

-- a run that has taken nothing ends as the run over what follows
runs_to : (p q : RunState) (ended : Ended) (input : List ℕ) → p ≡ new_run → ends_as p input ≡ outcome_at q ended → RunsTo q.text ended input
unfolding run
runs_to p q ended input new e =
    let whole : ends_as new_run input ≡ outcome_at q ended = ap (λ x. ends_as x input) (sym new) ∙ e in
    record { text = ap (λ (o : Outcome). o.text) whole; end = ap (λ (o : Outcome). o.ended) whole }

-- a run that has read to its end decides it
run_decides : (a b : SourceView) (p q : RunState) (ended : Ended) → p ≡ new_run → (t : ReadsToEnd a b p q ended) → Decides b.left t.taken (RunsTo q.text ended)
run_decides a b p q ended new t =
    decides_to b.left t.taken (λ text. ends_as p text ≡ outcome_at q ended) (RunsTo q.text ended) (λ text e. runs_to p q ended text new e) t.decides

-- what the run over a text prints is the printing of its transcript, which is legal
prints_legal : (given : List ℕ) (ended : Ended) (input : List ℕ) → RunsTo given ended input → PrintsLegal given input
unfolding run
prints_legal given ended input r = record { printed = sym r.text; legal = every_run input }

-- the clauses of a replay

-- the end of a run is that of its status
came_to : (ended : Ended) (A : Type 0) (P : Ended → Type 0) → P ended → MatchOption (end_of (status_of ended)) A P
came_to Done A P p = p
came_to (BadLine line column) A P p = p
came_to (Limit name number) A P p = p

-- a run that came to its end, and all that it printed was given
pub replays_end : (a b : SourceView) (m n : SinkView) (p q : RunState) (ended : Ended) → p ≡ new_run → ReadsToEnd a b p q ended
    → Appends m.held n.held q.text → FinishesAll m n → Replays a b m n (status_of ended)
replays_end a b m n p q ended new t k f =
    let rest : List ℕ = rest_of b.left in
    let d : Decides b.left t.taken (RunsTo q.text ended) = run_decides a b p q ended new t in
    let r : RunsTo q.text ended (t.taken ++ rest) = decided b.left t.taken (RunsTo q.text ended) d in
    record {
      taken = t.taken;
      rest = rest;
      given = q.text;
      consumed = t.consumed;
      left = rest_is b.left;
      appended = k;
      answers = came_to ended (CutShort a b m n q.text (t.taken ++ rest) (status_of ended)) (CameTo b.left m n t.taken rest q.text)
          (record { runs = r; legal = prints_legal q.text ended (t.taken ++ rest) r; decides = d; all = t.all; finished = f });
    }

-- a run that came to its end, and some front of what it printed was given
pub replays_write_fault : (a b : SourceView) (m n : SinkView) (p q : RunState) (ended : Ended) → p ≡ new_run → ReadsToEnd a b p q ended
    → GivesFront m n q.text → Rose m.faults n.faults → Replays a b m n status.WriteFault
replays_write_fault a b m n p q ended new t f rose =
    let r : RunsTo q.text ended (t.taken ++ rest_of b.left) = decided b.left t.taken (RunsTo q.text ended) (run_decides a b p q ended new t) in
    record {
      taken = t.taken;
      rest = rest_of b.left;
      given = f.front;
      consumed = t.consumed;
      left = rest_is b.left;
      appended = f.given;
      answers = record { cause = rose; front = (f.rest, r.text ∙ f.parts) };
    }

-- a read failed, and nothing was given
pub replays_read_fault : (a b : SourceView) (m : SinkView) → ReadsFront a b → HasFault a b → Replays a b m m status.ReadFault
replays_read_fault a b m t rose = record {
  taken = t.taken;
  rest = rest_of b.left;
  given = [];
  consumed = t.consumed;
  left = rest_is b.left;
  appended = appends_nothing m.held;
  answers = record { cause = rose; front = (_, refl) };
}

-- memory ran out, and nothing was given
pub replays_no_memory : (a b : SourceView) (m : SinkView) → ReadsFront a b → Replays a b m m status.NoMemory
replays_no_memory a b m t = record {
  taken = t.taken;
  rest = rest_of b.left;
  given = [];
  consumed = t.consumed;
  left = rest_is b.left;
  appended = appends_nothing m.held;
  answers = record { cause = tt; front = (_, refl) };
}

-- a replay answers no usage fault
pub no_usage : (a b : SourceView) (m n : SinkView) (s : Status) (place : ℕ) → Replays a b m n s → s ≡ status.Usage place → ⊥
no_usage a b m n s place r e = let u : Replays a b m n (status.Usage place) = subst (Replays a b m n) e r in u.answers.cause
