use Rattle.std.proofs.Common.{◌≡◌, ℕ, ap, ◌∙◌, filter, subst}
use Rattle.dl_record.specs.Reading.{entry_at}
use Rattle.dl_rules_stream.specs.Seeks.{Position}
use Rattle.dl_rules_stream.specs.LogReaders.{Read, after_rows, is_wanted, rows_in}
use Rattle.dl_reader.specs.Readings.{ReadingFacts, with_rows}
use Rattle.dl_reader.specs.Steps.{IsStep}
use Rattle.dl_reader.proofs.entries.after_entry.Goals as goal

pub returns : goal.returns
returns c w s at walk rest =
    let x = c.args.given.now in
    let r = c.args.reading.now.read in
    let left = c.args.reading.now.left in
    let entry = c.args.span.entry in
    let read = entry_at c.args.bytes.now in
    let from : c.reading.inside.from ≡ r.from = ap (λ (k : ReadingFacts). k.read.from) c.reading.view_is in
    let rows : c.in_ok-rows.rows ≡ filter (is_wanted r.from) (rows_in w.segment entry read) =
    c.in_ok-rows.ensures ∙ ap (λ (p : Position). filter (is_wanted p) (rows_in c.args.walk.segment entry read)) from
    ∙ ap (λ (n : ℕ). filter (is_wanted r.from) (rows_in n entry read)) walk.segment in
    subst (λ (q : Read). IsStep x (with_rows r c.in_ok-rows.rows) left (after_rows x w c.args.span.readable entry q) c.in_ok-step.step)
    (ap (with_rows r) rows) (c.in_ok-step.ensures w s walk rest)
