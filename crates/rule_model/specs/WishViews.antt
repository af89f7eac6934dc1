-- What a wish of the program stands for.
use Rattle.rule_model.specs.Wishes.{Wish}
use Rattle.rule_model.specs.declared.wish.ClientWish.{ClientWish}

abbrev pub wish_of : ClientWish → Wish
wish_of w = record { offer = w.offer; ask = w.ask }
