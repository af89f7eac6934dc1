-- Sessions of clients that are given their wishes. (This profile.)
use Rattle.std.specs.Prelude.{ℕ, ◌+◌, List, [], ◌∷◌, map, Vec}
use Rattle.std.specs.declared.alloc.Global.{Global}
use Rattle.rule_model.specs.Events.{Event}
use Rattle.rule_model.specs.Wishes.{Wish}
use Rattle.rule_model.specs.declared.wish.ClientWish.{ClientWish}
use Rattle.rule_model.specs.WishViews.{wish_of}
use Rattle.session_laws.specs.Answers.{AnswersClient}

-- what a client wishes, in order
abbrev pub all_wishes_of : Vec ClientWish Global → List Wish
all_wishes_of wishes = map wish_of wishes.items

-- the offers of each client in the log, from the client of this number on, are just its wishes, in order, each with exactly one answer
abbrev pub AnswersClients : ℕ → List (List Wish) → List Event → Type 0
AnswersClients first [] log = Unit {0}
AnswersClients first (wishes ∷ clients) log = AnswersClient first wishes log × AnswersClients (first + 1) clients log
