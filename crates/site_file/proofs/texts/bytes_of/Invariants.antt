use Rattle.std.proofs.Common.{◌≡◌, take}
use Rattle.site_file.proofs.texts.bytes_of.Given as goal

abbrev pub invariant-loop-text : goal.invariant-loop-text
invariant-loop-text l = l.bytes.items ≡ take l.text-index l.texts
