use Rattle.ascii_json.proofs.WrittenReadsBack.{json_printable}
use Rattle.ascii_json.proofs.laws.written_is_printable.Goals as goal

pub returns : goal.returns
returns c = json_printable
