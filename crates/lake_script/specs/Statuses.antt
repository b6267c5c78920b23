-- How a run ends, as the program says it.
use Rattle.std.specs.Prelude.{ℕ, List, [], ◌++◌, codes}
use Rattle.std.specs.Fmt.{decimal}
use Rattle.sql_tokens.specs.declared.faults.ParseKind.{ParseKind}
use Rattle.sql_tokens.specs.declared.faults.ParseKind.TheVariants.{BadChar, OpenText, NotUtf8, LongText, LongName, BigNumber, Limit, Syntax}
use Rattle.lake_script.specs.declared.status.Status.{Status}
use Rattle.lake_script.specs.declared.status.Status.TheVariants.{Done, Usage, ScriptRefused, TooLong, ReadFault, WriteFault, NoMemory}

abbrev pub kind_text : ParseKind → List ℕ
kind_text BadChar = codes "bad character"
kind_text OpenText = codes "open text"
kind_text NotUtf8 = codes "not utf-8"
kind_text LongText = codes "long text"
kind_text LongName = codes "long name"
kind_text BigNumber = codes "big number"
kind_text Limit = codes "limit"
kind_text Syntax = codes "syntax"

abbrev pub usage_line : List ℕ
usage_line = codes "usage: lake run|bulk N|check [--servers N] [--attempts 1|2] [--lose LIST] [--join LIST]\n"

-- where and why a script was refused
abbrev pub line_of_refusal : ℕ → ℕ → List ℕ → List ℕ
line_of_refusal line column kind = codes "script refused at " ++ decimal line ++ codes ":" ++ decimal column ++ codes ": " ++ kind ++ codes "\n"

-- the words for a status, with their line feed; none where all went well
abbrev pub text_of_status : Status → List ℕ
text_of_status Done = []
text_of_status Usage = usage_line
text_of_status (ScriptRefused bad) = line_of_refusal bad.line bad.column (kind_text bad.kind)
text_of_status TooLong = codes "script too long\n"
text_of_status ReadFault = codes "read fault\n"
text_of_status WriteFault = codes "write fault\n"
text_of_status NoMemory = codes "out of memory\n"

-- the exit status of the process
abbrev pub exit_number : Status → ℕ
exit_number Done = 0
exit_number Usage = 1
exit_number (ScriptRefused bad) = 2
exit_number TooLong = 3
exit_number ReadFault = 4
exit_number WriteFault = 5
exit_number NoMemory = 6
