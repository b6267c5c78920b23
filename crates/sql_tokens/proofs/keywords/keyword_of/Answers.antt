use Rattle.std.proofs.Common.{◌∙◌, List, sym, ap, arith}
use Rattle.std.specs.List.{find}
use Rattle.std.proofs.lemmas.Bool.Decides.{nat_tests}
use Rattle.sql_tokens.specs.declared.keywords.Keyword.{Keyword}
use Rattle.sql_tokens.specs.Tokens.{keyword_text, same_bytes}
use Rattle.sql_tokens.proofs.Lookup.{keyword_of-beginning, keyword_of-empty}
use Rattle.sql_tokens.proofs.keywords.keyword_of.Goals as goal

pub returns-then-is_empty : goal.returns-then-is_empty
returns-then-is_empty c = sym (keyword_of-empty c.args.name.now (grind (arith, nat_tests)))

pub returns : goal.returns
returns c =
    c.keyword_among.ensures
    ∙ ap (λ (ks : List Keyword). find (λ keyword. same_bytes (keyword_text keyword) c.args.name.now) ks) c.beginning_with.ensures
    ∙ keyword_of-beginning c.args.name.now (grind (arith, nat_tests))
