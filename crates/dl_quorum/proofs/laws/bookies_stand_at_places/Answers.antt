use Rattle.dl_quorum.proofs.PieceLemmas.{acks-places, blocks-places, acks-meets-blocks, members_more, covers-blocks}
use Rattle.dl_quorum.proofs.laws.bookies_stand_at_places.Goals as goal

pub returns-clause-places : goal.returns-clause-places
returns-clause-places c w entry has = (acks-places w entry has, blocks-places w entry has)

pub returns-clause-meet : goal.returns-clause-meet
returns-clause-meet c = acks-meets-blocks

pub returns-clause-later : goal.returns-clause-later
returns-clause-later c = members_more

pub returns-clause-cover : goal.returns-clause-cover
returns-clause-cover c = covers-blocks
