-- What a script's record is answered, as text.
use Rattle.std.specs.Prelude.{ℕ, List, [], ◌++◌, codes, Option, None, Some, Result, Ok, Err}
use Rattle.std.specs.Fmt.{decimal}
use Rattle.sc_papers.specs.Refusal.{code_of, name_of, number_of}
use Rattle.sc_papers.specs.declared.amendment.Refusal.{Refusal}

-- a comma and the number, or nothing for none
abbrev pub number_text : Option ℕ → List ℕ
number_text None = []
number_text (Some n) = codes "," ++ decimal n

-- a refusal: its code, a comma, its name, and the number that it tells, if any
abbrev pub refusal_text : Refusal → List ℕ
refusal_text r = decimal (code_of r) ++ codes "," ++ name_of r ++ number_text (number_of r)

-- the reply line of a script's record of this number
abbrev pub reply_text : ℕ → Result (Unit {0}) Refusal → List ℕ
reply_text number (Ok done) = decimal number ++ codes ",ok\n"
reply_text number (Err r) = decimal number ++ codes ",refused," ++ refusal_text r ++ codes "\n"
