mod RunLists
