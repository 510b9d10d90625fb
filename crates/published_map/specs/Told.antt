-- Statement: contracts of public calls use it.
-- What news tell.
use Rattle.std.specs.Prelude.{◌≡◌, Some}
use Rattle.left_right.specs.Sides.{view as known}
use Rattle.map_core.specs.State.{History}
use Rattle.published_map.specs.declared.published.Knowledge.{Knowledge}
use Rattle.published_map.specs.declared.news.News.{News}

-- what is known by the news
abbrev pub knowledge_of : News → Knowledge
knowledge_of news = known news.reader.place

-- they tell of this map
abbrev pub HasToldOf : News → History → Type 0
HasToldOf news map = (knowledge_of news).told ≡ Some map
