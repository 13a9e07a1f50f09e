use Rattle.std.proofs.Common.{◌≡◌, ◌∙◌, ◌+◌, ◌≤◌, ◌++◌, ◌∷◌, [], List, ℕ, length, drop, sym, subst, ap, arith}
use Rattle.std.proofs.lemmas.List.{take_rest}
use Rattle.dl_journal.specs.declared.batch.Batch.{Batch}
use Rattle.dl_journal.specs.Batches.{magic, spell, Runs}
use Rattle.dl_journal.specs.Reading.{due_of, IsFramed}
use Rattle.dl_journal.proofs.Parsing.{grown, holds}
use Rattle.dl_journal.proofs.parse.contents_of.Goals as goal
use Rattle.dl_journal.proofs.parse.contents_of.Goals.{then-loop-at-test+else-bytes-at-eq1, else-loop-at-test}

pub read_batch-requires-clause-same : goal.read_batch-requires-clause-same
read_batch-requires-clause-same c =
    take_rest c.args.bytes.now (c.loop-at.at + 1) ∙ ap (λ (l : List ℕ). drop (c.loop-at.at + 1) l) c.requires.same

pub loop-at-preserved : goal.loop-at-preserved
loop-at-preserved c =
    let inv = c.loop-at.invariant in
    let b = c.in_ok-batch.batch in
    let frame_of = subst (λ (l : List ℕ). IsFramed c.loop-at.due l b) (take_rest c.args.bytes.now (c.loop-at.at + 1)) c.in_ok-batch.ensures in
    let g = grown c.args.bytes.now c.loop-at.at c.loop-at.due inv.first c.loop-at.batches.items b inv.runs inv.due inv.place c.loop-at-test.true
    c.if-bytes-at-eq1.true inv.spelled frame_of in
    let pushed : c.push.new.self.items ≡ c.loop-at.batches.items ++ b ∷ [] = c.in_ok-push.ensures.items in
    let size : c.loop-at.at + (13 + length b.body) ≡ c.loop-at.at + (13 + c.len.result) = ap (λ (n : ℕ). c.loop-at.at + (13 + n)) (sym c.len.ensures) in
    record {
      first = g.first;
      runs = subst (λ (l : List Batch). Runs g.first l) (sym pushed) g.runs;
      due = g.due ∙ ap (λ (l : List Batch). due_of g.first l) (sym pushed);
      place = sym size ∙ g.place ∙ ap (λ (l : List Batch). 8 + length (spell l)) (sym pushed);
      inside = subst (λ (n : ℕ). n ≤ length c.args.bytes.now) size g.inside;
      spelled = g.spelled ∙ ap (λ (l : List Batch). magic ++ (spell l ++ drop (c.loop-at.at + (13 + length b.body)) c.args.bytes.now)) (sym pushed)
          ∙ ap (λ (n : ℕ). magic ++ (spell c.push.new.self.items ++ drop n c.args.bytes.now)) size;
    }

pub returns : goal.returns
returns c =
    let inv = c.loop-at.invariant in
    elim c.loop-at-test.branch [
      | then-loop-at-test+else-bytes-at-eq1 w ↦
          holds c.args.bytes.now c.loop-at.at c.unwrap_or.result c.loop-at.due inv.first c.loop-at.batches.items inv.runs inv.due inv.place
          w.loop-at-test.true w.if-bytes-at-eq1.false inv.spelled c.unwrap_or.ensures c.requires.fits
      | else-loop-at-test w ↦ absurd (omega arith)
    ]
