-- What the program's exit status says.
use Rattle.std.specs.Prelude.{ℕ, Bool, cond, not}
use Rattle.output.specs.declared.page.Page.{Page}
use Rattle.output.specs.declared.status.Answer.{Answer}
use Rattle.output.specs.declared.status.Answer.TheVariants.{Answered, No, Unsure, Refused, Failed}

-- 0 answered, 1 refused by a number, 2 anything else: wrong use, a file that cannot be read or written
abbrev pub plain_of : Answer → ℕ
plain_of Answered = 0
plain_of No = 0
plain_of Unsure = 0
plain_of Refused = 1
plain_of Failed = 2

-- asked for as yes or no: 0 yes, 1 no, 2 anything else, where it is neither and a refusal too
abbrev pub asked_of : Answer → ℕ
asked_of Answered = 0
asked_of No = 1
asked_of Unsure = 2
asked_of Refused = 2
asked_of Failed = 2

abbrev pub said_of : Bool → Answer → ℕ
said_of asked a = cond asked (asked_of a) (plain_of a)

-- an output that was not written whole is 2, whatever was answered
abbrev pub status_of : Bool → Answer → Bool → ℕ
status_of asked a whole = cond whole (said_of asked a) 2

-- the page's mark of a write that failed is down
abbrev pub is_whole : Page → Bool
is_whole page = not page.torn
