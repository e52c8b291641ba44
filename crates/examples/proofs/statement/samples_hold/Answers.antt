use Rattle.examples.proofs.Sampled.{lengths, missing, interfaces, edges, wholes, sharing, joining}
use Rattle.examples.proofs.SampledEdits.{sources, destinations, matching, placing, keeping}
use Rattle.examples.proofs.SampledSorts.{sorts}
use Rattle.examples.proofs.SampledAnswers.{answering, asking, sending, recording, effects}
use Rattle.examples.proofs.statement.samples_hold.Goals as goal

pub returns : goal.returns
returns c = record {
  lengths = lengths;
  missing = missing;
  interfaces = interfaces;
  edges = edges;
  wholes = wholes;
  sharing = sharing;
  joining = joining;
  sources = sources;
  destinations = destinations;
  matching = matching;
  placing = placing;
  keeping = keeping;
  sorts = sorts;
  answering = answering;
  asking = asking;
  sending = sending;
  recording = recording;
  effects = effects;
}
