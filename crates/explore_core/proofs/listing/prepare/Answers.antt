use Rattle.explore_core.proofs.listing.prepare.Goals as goal

pub returns-in_err-reserve-clause-same : goal.returns-in_err-reserve-clause-same
returns-in_err-reserve-clause-same c = c.reserve.ensures.items

pub returns-in_err-schedule-clause-same : goal.returns-in_err-schedule-clause-same
returns-in_err-schedule-clause-same c = c.reserve.ensures.items

pub returns-clause-same : goal.returns-clause-same
returns-clause-same c = c.reserve.ensures.items
