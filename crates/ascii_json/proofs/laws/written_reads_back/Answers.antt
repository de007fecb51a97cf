use Rattle.ascii_json.proofs.WrittenReadsBack.{reads_back}
use Rattle.ascii_json.proofs.laws.written_reads_back.Goals as goal

pub returns : goal.returns
returns c = reads_back
