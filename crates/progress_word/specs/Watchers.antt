-- What contracts see of a watcher.
use Rattle.std.specs.Prelude.{◌≡◌, ℕ, ◌<◌, refl}
use Rattle.std.specs.Coded.{Coded, code_by, coded×, coded_ℕ}
use Rattle.atomic_table.specs.Seated.{TableId, table_id_coded}

-- of which word it is, and its view of that
pub record WatcherView : Type 0 where
  pub word : TableId
  pub seen : ℕ
  pub raised : ℕ
  pub parts : ℕ

abbrev pub watcher_view : TableId → ℕ → ℕ → ℕ → WatcherView
watcher_view word seen raised parts =
    record { word = word; seen = seen; raised = raised; parts = parts }

abbrev pub watcher_view_coded : Coded WatcherView
watcher_view_coded =
    code_by (TableId × (ℕ × (ℕ × ℕ)))
    (coded× table_id_coded (coded× coded_ℕ (coded× coded_ℕ coded_ℕ)))
    (λ o. (o.word, (o.seen, (o.raised, o.parts))))
    (λ p. watcher_view p.0 p.1.0 p.1.1.0 p.1.1.1) (λ _. refl)

-- it is one of this word, and has a part
abbrev pub IsAt : TableId → WatcherView → Type 0
IsAt word o = (o.word ≡ word) × (0 < o.parts)
