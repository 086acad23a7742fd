-- The history of many sessions, each session's own list, and the steps that change them.
use Rattle.std.specs.Prelude.{◌≡◌, ℕ, ◌+◌, ◌<◌, true, false, nat_eq, List, [], ◌∷◌, ◌++◌, filter}
use mathlib.Core.Option.{Option, none, some}
use lib.ListN.{get_elem?}
use Rattle.atomic_table.specs.Table.{State, Me, Step}
use Rattle.session_lists.specs.declared.rule.ListsView.{ListsView}

-- those of a history that are a session's
abbrev pub own_of : {E : Type 0} → (E → ℕ) → ℕ → List E → List E
own_of session_of session history = filter (λ e. nat_eq (session_of e) session) history

-- ---- views

-- the keeper's, with no session's list
abbrev pub keeper : {E : Type 0} → List E → ℕ → ListsView E
keeper history dealt =
    record {
      keeps = true;
      history = history;
      dealt = dealt;
      owns = false;
      session = 0;
      own = [];
    }

-- a session's, with its list
abbrev pub owner : {E : Type 0} → ℕ → List E → ListsView E
owner session own =
    record {
      keeps = false;
      history = [];
      dealt = 0;
      owns = true;
      session = session;
      own = own;
    }

abbrev pub nobody : {E : Type 0} → ListsView E
nobody =
    record {
      keeps = false;
      history = [];
      dealt = 0;
      owns = false;
      session = 0;
      own = [];
    }

-- ---- the rule

-- `seat` has the view of the keeper, `holder` tells which view has each session's list, and `by` is
-- this view. The one view that keeps knows the history. The one view that has the list of a session
-- has those of the history that are the session's.
pub record IsRightView {E : Type 0} (session_of : E → ℕ) (seat : ℕ) (es : List E) (sessions : ℕ)
    (holder : ℕ → ℕ) (by : ℕ) (v : ListsView E) : Type 0 where
  pub alone : v.keeps ≡ true → by ≡ seat
  pub history : v.keeps ≡ true → v.history ≡ es
  pub dealt : v.keeps ≡ true → v.dealt ≡ sessions
  pub place : v.owns ≡ true → by ≡ holder v.session
  pub below : v.owns ≡ true → v.session < sessions
  pub own : v.owns ≡ true → v.own ≡ own_of session_of v.session es

pub record HaveLists {E : Type 0} (session_of : E → ℕ) (views : List (ListsView E)) : Type 0 where
  pub seat : ℕ
  pub history : List E
  pub dealt : ℕ
  pub holder : ℕ → ℕ
  pub fits : (by : ℕ) (v : ListsView E) → get_elem? views by ≡ some v
      → IsRightView session_of seat history dealt holder by v

-- the same of a table, whose words are free
abbrev pub KeepsLists : {E : Type 0} → (E → ℕ) → State E (ListsView E) → Type 0
KeepsLists session_of s = HaveLists session_of s.views

-- ---- the steps

abbrev pub with_new_list : {E : Type 0} → ListsView E → ListsView E
with_new_list v =
    record {
      keeps = v.keeps;
      history = v.history;
      dealt = v.dealt + 1;
      owns = true;
      session = v.dealt;
      own = [];
    }

abbrev pub HasDealt : {E : Type 0} → Step E → Me E (ListsView E) → ℕ → Me E (ListsView E) → Type 0
HasDealt step v found w = w ≡ (with_new_list v.0, v.1)

abbrev pub added : {E : Type 0} → Option E → ListsView E → ListsView E
added none v = v
added (some e) v =
    record {
      keeps = v.keeps;
      history = v.history ++ e ∷ [];
      dealt = v.dealt;
      owns = v.owns;
      session = v.session;
      own = v.own ++ e ∷ [];
    }

abbrev pub HasAdded : {E : Type 0} → Step E → Me E (ListsView E) → ℕ → Me E (ListsView E) → Type 0
HasAdded step v found w = w ≡ (added step.said v.0, v.1)

abbrev pub HasCompared : {E : Type 0} → (E → ℕ) → Step E → Me E (ListsView E) → ℕ
    → Me E (ListsView E)
    → Type 0
HasCompared session_of step v found w =
    (w ≡ v) × (v.0.own ≡ own_of session_of v.0.session v.0.history)

abbrev pub without_own : {E : Type 0} → ListsView E → ListsView E
without_own v =
    record {
      keeps = v.keeps;
      history = v.history;
      dealt = v.dealt;
      owns = false;
      session = 0;
      own = [];
    }

abbrev pub own_alone : {E : Type 0} → ListsView E → ListsView E
own_alone v =
    record {
      keeps = false;
      history = [];
      dealt = 0;
      owns = v.owns;
      session = v.session;
      own = v.own;
    }

abbrev pub with_own : {E : Type 0} → ListsView E → ListsView E → ListsView E
with_own v w =
    record {
      keeps = v.keeps;
      history = v.history;
      dealt = v.dealt;
      owns = w.owns;
      session = w.session;
      own = w.own;
    }
