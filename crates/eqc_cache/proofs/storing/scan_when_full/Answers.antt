use Rattle.eqc_guard.proofs.Copying.{cells_stay}
use Rattle.eqc_cache.proofs.Trading.{scanned, stays}
use Rattle.eqc_cache.proofs.storing.scan_when_full.Goals as goal

pub returns-then-retired-announcement_words-clause-same :
    goal.returns-then-retired-announcement_words-clause-same
returns-then-retired-announcement_words-clause-same c = scanned c.args.worker.now c.scan.new.self
    c.requires.known c.requires.ready c.requires.quiet c.scan.ensures

pub returns-else-retired-announcement_words-clause-same :
    goal.returns-else-retired-announcement_words-clause-same
returns-else-retired-announcement_words-clause-same c = stays c.args.worker.now c.requires.known
    c.requires.quiet

pub returns-then-retired-announcement_words-clause-cells :
    goal.returns-then-retired-announcement_words-clause-cells
returns-then-retired-announcement_words-clause-cells c = c.scan.ensures.copy

pub returns-else-retired-announcement_words-clause-cells :
    goal.returns-else-retired-announcement_words-clause-cells
returns-else-retired-announcement_words-clause-cells c = cells_stay c.args.worker.now.known
