use Rattle.std.proofs.Common.{[]}
use Rattle.explore_core.proofs.Parting.{Begins-refl, place-at}
use Rattle.explore_core.proofs.parts.Parts.look_at.Goals as goal

pub returns-in_err-timelines-clause-grown : goal.returns-in_err-timelines-clause-grown
returns-in_err-timelines-clause-grown c = record { timelines = c.timelines_place.ensures.begins; files = Begins-refl c.args.self.now.files; buffers = Begins-refl c.args.self.now.buffers }

pub returns-in_err-buffers-clause-grown : goal.returns-in_err-buffers-clause-grown
returns-in_err-buffers-clause-grown c = record { timelines = c.timelines_place.ensures.begins; files = Begins-refl c.args.self.now.files; buffers = c.buffers_place.ensures.begins }

pub returns-in_err-files-clause-grown : goal.returns-in_err-files-clause-grown
returns-in_err-files-clause-grown c = record { timelines = c.timelines_place.ensures.begins; files = c.file_places.ensures.begins; buffers = c.buffers_place.ensures.begins }

pub returns-clause-grown : goal.returns-clause-grown
returns-clause-grown c = record { timelines = c.timelines_place.ensures.begins; files = c.file_places.ensures.begins; buffers = c.buffers_place.ensures.begins }

pub returns-clause-fits : goal.returns-clause-fits
returns-clause-fits c = record {
  timelines = (place-at _ c.in_ok-timelines.timelines _ [] c.in_ok-timelines.ensures.there).0;
  files = c.in_ok-files.ensures.fit;
  buffers = (place-at _ c.in_ok-buffers.buffers _ [] c.in_ok-buffers.ensures.there).0;
}

pub returns-clause-shows : goal.returns-clause-shows
returns-clause-shows c = record {
  timelines = (place-at _ c.in_ok-timelines.timelines _ [] c.in_ok-timelines.ensures.there).1;
  files = c.in_ok-files.ensures.files;
  distinct = c.file_places.ensures.distinct;
  buffers = (place-at _ c.in_ok-buffers.buffers _ [] c.in_ok-buffers.ensures.there).1;
}
