use Rattle.lake_script.proofs.OneTextOfBytes
use Rattle.lake_script.proofs.laws.bytes_have_one_text.Goals as goal

pub returns : goal.returns
returns c = OneTextOfBytes.bytes_have_one_text
