use Rattle.std.proofs.Common.{[], ◌∷◌}
use Rattle.words_core.proofs.Seen.{seen_stays}
use Rattle.words_core.proofs.Knowing.{tests_of-later, tests_of-parted, tests_of-both_of}
use Rattle.words_core.proofs.laws.what_is_known_stays_known.Goals as goal

pub returns-clause-seen_later : goal.returns-clause-seen_later
returns-clause-seen_later c = λ seat s w. seen_stays seat w (s ∷ [])

pub returns-clause-later : goal.returns-clause-later
returns-clause-later c = tests_of-later

pub returns-clause-parted : goal.returns-clause-parted
returns-clause-parted c = tests_of-parted

pub returns-clause-joined : goal.returns-clause-joined
returns-clause-joined c = tests_of-both_of
