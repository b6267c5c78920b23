use Rattle.std.specs.Str.{IsUtf8}
use Rattle.std.proofs.Common.{arith}
use Rattle.std.proofs.lemmas.Grind.{common_steps}
use Rattle.std.proofs.lemmas.Str.{IsUtf8-from_ascii}
use Rattle.std.proofs.lemmas.Str.Ascii.{IsAscii-from_all}
use Rattle.sql_tokens.proofs.words.ascii_text.Goals as goal

pub unwrap-name-requires : goal.unwrap-name-requires
unwrap-name-requires c =
    let utf8 : IsUtf8 c.args.name.now = IsUtf8-from_ascii c.args.name.now (IsAscii-from_all c.args.name.now c.requires.ascii) in
    grind (arith, common_steps, utf8)
