use Rattle.dl_reader.proofs.Lifting.{gathers, stays, takes}
use Rattle.dl_reader.proofs.reader.LogReader.go_on.Goals as goal

pub returns-in-Stays-clause-goes : goal.returns-in-Stays-clause-goes
returns-in-Stays-clause-goes c x n stands = stays x n c.args.self.now c.args.heard.now c.in_ok-after.after stands c.in_ok-after.ensures c.in-Stays.is

pub returns-in-Takes-clause-goes : goal.returns-in-Takes-clause-goes
returns-in-Takes-clause-goes c x n stands =
    takes x n c.args.self.now c.args.heard.now c.in_ok-after.after c.in-Takes.step c.take.result c.take.new.self stands c.in_ok-after.ensures
    c.in-Takes.is c.take.ensures

pub returns-in_ok-gather-in-Gathers-clause-goes : goal.returns-in_ok-gather-in-Gathers-clause-goes
returns-in_ok-gather-in-Gathers-clause-goes c x n stands =
    gathers x n c.args.self.now c.args.heard.now c.in_ok-after.after c.in-Gathers.rows c.in-Gathers.step c.take-in-Gathers.result c.gather.new.self
    c.take-in-Gathers.new.self stands c.in_ok-after.ensures c.in-Gathers.is c.in_ok-gather-in-Gathers.ensures.ok c.take-in-Gathers.ensures
