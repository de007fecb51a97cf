use Rattle.std.proofs.Common.{rules}
use Rattle.http_edge.proofs.Reading.{framing_bad, framing_long}
use Rattle.http_edge.proofs.request_head.head_among.Goals as goal

pub returns-then-bytes-ge-HEAD_LIMIT : goal.returns-then-bytes-ge-HEAD_LIMIT
returns-then-bytes-ge-HEAD_LIMIT c = (
  tt,
  framing_long c.args.bytes.now c.first_bytes.result.now c.first_bytes.ensures.front c.in-Begun.ensures.0 c.in-Begun.ensures.1 (search rules),
)

pub returns-in-Never : goal.returns-in-Never
returns-in-Never c = (
  tt,
  framing_bad c.args.bytes.now c.first_bytes.result.now c.first_bytes.ensures.front c.in-Never.ensures.0 c.in-Never.ensures.1,
)
