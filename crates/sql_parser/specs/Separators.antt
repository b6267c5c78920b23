-- What stands between the members of a list.
use Rattle.sql_tokens.specs.declared.keywords.Keyword.TheVariants as keyword
use Rattle.sql_tokens.specs.declared.signs.Sign.TheVariants as sign
use Rattle.sql_parser.specs.declared.lists.Separator.{Separator}
use Rattle.sql_parser.specs.declared.lists.Separator.TheVariants.{Comma, And}
use Rattle.sql_parser.specs.Classes.{Class, the_keyword, the_sign}

abbrev pub separator_class : Separator → Class
separator_class Comma = the_sign sign.Comma
separator_class And = the_keyword keyword.And
