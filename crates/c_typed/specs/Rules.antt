-- The rules of typing, by the numbers that order them at one place.
use Rattle.std.specs.Prelude.{ℕ}
use Rattle.c_typed.specs.declared.rule.Rule.{Rule}
use Rattle.c_typed.specs.declared.rule.Rule.TheVariants.{UnknownName, Redeclared, NoMain, WrongSignature, BadType, NotAPlace, NotACondition, WrongOperands, NotAssignable, NotAFunction, ArgumentCount, OutsideALoop, ReturnValue, WrongInitialiser}

abbrev pub number_of : Rule → ℕ
number_of UnknownName = 1
number_of Redeclared = 2
number_of NoMain = 3
number_of WrongSignature = 4
number_of BadType = 5
number_of NotAPlace = 6
number_of NotACondition = 7
number_of WrongOperands = 8
number_of NotAssignable = 9
number_of NotAFunction = 10
number_of ArgumentCount = 11
number_of OutsideALoop = 12
number_of ReturnValue = 13
number_of WrongInitialiser = 14
