use Rattle.lake_script.proofs.OneTextOfBytes
use Rattle.lake_script.proofs.laws.places_ascend.Goals as goal

pub returns : goal.returns
returns c = OneTextOfBytes.places_ascend
