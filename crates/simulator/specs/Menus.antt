-- Menus: the steps that are possible, as text. (This profile.)
use Rattle.std.specs.Prelude.{ℕ, ◌+◌, ◌<◌, ◌≡◌, ◌↔◌, ◌++◌, List, [], ◌∷◌, Bool, true, false, IsTrue, codes, decimal, length, take}
use Rattle.run_settings.specs.declared.settings.Settings.{Settings}
use Rattle.spec_core.specs.Code.{Program}
use Rattle.rule_model.specs.declared.action.Action.{Action}
use Rattle.rule_model.specs.Behaviours.{Behaviour}
use Rattle.rule_model.specs.Derivations.{Derivation}
use Rattle.rule_model.specs.Derives.{Derives}
use Rattle.rule_model.specs.States.{State}
use Rattle.decision_trees.specs.Rules.{any, any_beyond}
use Rattle.board_laws.specs.Next.{HasEnded}
use Rattle.trace_text.specs.Trace.{Names, action_text}
use Rattle.trace_text.specs.Names.{names_in}
use Rattle.board_lists.specs.declared.list.Candidate.{Candidate}
use Rattle.board_lists.specs.Listings.{HoldsOfTrees}

-- the most steps of a menu
abbrev pub menu_limit : ℕ
menu_limit = 1000

abbrev pub action_in : Candidate → Action
action_in candidate = candidate.action

-- a step: its number and its action
abbrev pub step_line : Names → ℕ → Action → List ℕ
step_line names n action = decimal n ++ codes " " ++ action_text names action ++ codes "\n"

-- steps with numbers from n on
abbrev pub step_lines : Names → ℕ → List Action → List ℕ
step_lines names n [] = []
step_lines names n (action ∷ actions) = step_line names n action ++ step_lines names (n + 1) actions

abbrev pub more_line : Bool → List ℕ
more_line true = codes "more\n"
more_line false = []

module _ (program : Program) (settings : Settings) (s : State) where
  -- the behaviour that is reached does these actions by these trees, one by one
  abbrev pub DoesBy : List Derivation → List Action → Type 0
  DoesBy [] [] = Unit {0}
  DoesBy (d ∷ trees) (action ∷ actions) = ((rest : Behaviour) × Derives program s.behaviour d action rest) × DoesBy trees actions
  DoesBy _ _ = ⊥

  abbrev pub NoTree : Type 0
  NoTree = HoldsOfTrees program settings s any (λ all. all ≡ [])

  -- The text of a menu, and how many steps it has: the first windowed trees, at most 1,000, a line for each, and whether there are more. Where
  -- there is none: that the last action was the termination; else that there is no beyond tree either; else that there is one.
  pub data IsMenu (text : List ℕ) (count : ℕ) : Type 0 where
    some_steps : (trees : List Derivation) (actions : List Action) (more : Bool) → (actions ≡ [] → ⊥) → DoesBy trees actions →
        HoldsOfTrees program settings s any (λ all. (trees ≡ take menu_limit all) × (IsTrue more ↔ (menu_limit < length all))) →
        text ≡ step_lines (names_in program) 1 actions ++ more_line more → count ≡ length trees → IsMenu text count
    has_ended : NoTree → HasEnded s.last → text ≡ codes "ended\n" → count ≡ 0 → IsMenu text count
    is_deadlock : NoTree → (HasEnded s.last → ⊥) → HoldsOfTrees program settings s any_beyond (λ all. all ≡ []) →
        text ≡ codes "deadlock\n" → count ≡ 0 → IsMenu text count
    is_beyond : NoTree → (HasEnded s.last → ⊥) → HoldsOfTrees program settings s any_beyond (λ all. all ≡ [] → ⊥) →
        text ≡ codes "beyond\n" → count ≡ 0 → IsMenu text count

  -- a menu of the behaviour that is reached has so many steps
  abbrev pub HasSteps : ℕ → Type 0
  HasSteps count = HoldsOfTrees program settings s any (λ all. count ≡ length (take menu_limit all))
